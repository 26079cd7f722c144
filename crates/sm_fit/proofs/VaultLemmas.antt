-- What a vault shipped fits, by its base and its room.
use Rattle.std.proofs.Common.{◌≡◌, ◌↔◌, ℕ, zero, suc, ◌+◌, ◌<◌, ◌≤◌, Bool, true, false, cond, List, [], ◌∷◌, length, get_or, drop, map, refl, sym, ap, subst, ◌∙◌, arith, drop-cons}
use Rattle.std.proofs.lemmas.List.{drop_all}
use Rattle.std.specs.Prelude.{Some}
use Rattle.std.proofs.lemmas.Bool.{both_ways}
use Rattle.sm_base.specs.declared.numbers.Ident.{Ident}
use Rattle.sm_defs.specs.Missing.{is_missing_at, missing_from, first_tag, rest, mirror_cost, vault_cost}
use Rattle.sm_defs.specs.Volume.{free}
use Rattle.sm_defs.specs.Relationship.{is_mirror}
use Rattle.sm_model.specs.Running.{Running}
use Rattle.sm_model.specs.Steps.{snapshot_of, image_or_none, bases}
use Rattle.sm_model.specs.LegsFit.{FirstFits}
use Rattle.sm_model.specs.declared.world.WorldSnapshot.{WorldSnapshot}
use Rattle.sm_shape.specs.Blank.{blank_image, blank_snapshot}
use Rattle.sm_fit.specs.Maps.{map_of, base_map}
use Rattle.sm_fit.specs.Shipped.{vault_cost_of, VaultLegFits, VaultFirst, ShippedFits}
use Rattle.sm_fit.proofs.BlankLemmas.{image_found, base_found}
use Rattle.sm_fit.proofs.FirstLemmas.{Bounded, Costs, bounded_fits, fits_bounded, first_fit}

-- ---- how many are missing from a place on

-- what is missing from a place on
abbrev pub missing_behind : List ℕ → List ℕ → ℕ → ℕ
missing_behind leg base k = length (missing_from k (blank_image (drop k leg)) (blank_image (drop k base)))

first_of : (base : List ℕ) (k : ℕ) → first_tag (blank_image (drop k base)) ≡ get_or base k 0
first_of [] zero = refl
first_of [] (suc k) = refl
first_of (n ∷ ns) zero = refl
first_of (n ∷ ns) (suc k) = first_of ns k

rest_of : (base : List ℕ) (k : ℕ) → rest (blank_image (drop k base)) ≡ blank_image (drop (suc k) base)
rest_of [] zero = refl
rest_of [] (suc k) = refl
rest_of (n ∷ ns) zero = refl
rest_of (n ∷ ns) (suc k) = rest_of ns k

one_here : (b : Bool) (k : ℕ) (ks : List ℕ) → length (cond b (k ∷ ks) ks) ≡ cond b 1 0 + length ks
one_here true k ks = omega arith
one_here false k ks = omega arith

pub missing_more : (leg base : List ℕ) (k : ℕ) → k < length leg
    → missing_behind leg base k ≡ cond (is_missing_at (get_or leg k 0) (get_or base k 0)) 1 0 + missing_behind leg base (k + 1)
missing_more leg base k lt =
    let next : suc k ≡ k + 1 = omega arith in
    ap (λ l. length (missing_from k (blank_image l) (blank_image (drop k base)))) (drop-cons leg k 0 lt)
    ∙ one_here (is_missing_at (get_or leg k 0) (first_tag (blank_image (drop k base)))) k (missing_from (suc k) (blank_image (drop (suc k) leg)) (rest (blank_image (drop k base))))
    ∙ ap (λ t. cond (is_missing_at (get_or leg k 0) t) 1 0 + length (missing_from (suc k) (blank_image (drop (suc k) leg)) (rest (blank_image (drop k base))))) (first_of base k)
    ∙ ap (λ b. cond (is_missing_at (get_or leg k 0) (get_or base k 0)) 1 0 + length (missing_from (suc k) (blank_image (drop (suc k) leg)) b)) (rest_of base k)
    ∙ ap (λ j. cond (is_missing_at (get_or leg k 0) (get_or base k 0)) 1 0 + missing_behind leg base j) next

pub none_behind : (leg base : List ℕ) (k : ℕ) → length leg ≤ k → missing_behind leg base k ≡ 0
none_behind leg base k past = ap (λ l. length (missing_from k (blank_image l) (blank_image (drop k base)))) (drop_all k leg past)

-- ---- of a transfer

module _ (x : Running) (ss ds : List WorldSnapshot) (base : List ℕ) (blocks : ℕ)
    (source : map blank_snapshot ss ≡ x.source.snapshots) (destination : map blank_snapshot ds ≡ x.destination.snapshots)
    (vault : is_mirror x.policy.kind ≡ false) (base_is : base ≡ base_map ss x.relation.base) (blocks_are : blocks ≡ free x.destination) where
  costs : (i : Ident) → Costs x i (vault_cost_of (map_of ss i) base)
  costs i leg e =
      let image : leg.image ≡ blank_image (map_of ss i) = ap image_or_none (sym e) ∙ ap (λ l. image_or_none (snapshot_of l (Some i))) (sym source) ∙ image_found ss i in
      let at_source : (bases x).at_source ≡ blank_image base = ap (λ l. image_or_none (snapshot_of l x.relation.base)) (sym source) ∙ base_found ss x.relation.base ∙ ap blank_image (sym base_is) in
      ap (λ b. cond b (mirror_cost leg.image x.destination.snapshots) (vault_cost leg.image (bases x))) vault
      ∙ ap (λ l. length (missing_from 0 l (bases x).at_source)) image
      ∙ ap (λ l. length (missing_from 0 (blank_image (map_of ss i)) l)) at_source

  leg_bounded : (i : Ident) → VaultLegFits x.transfer base blocks ss i → Bounded x ss i (vault_cost_of (map_of ss i) base)
  leg_bounded i f = record { there = f.there; within = f.within; room = λ _. subst (λ n. vault_cost_of (map_of ss i) base ≤ n) blocks_are f.room }

  first_fits : (legs : List Ident) → VaultFirst x.transfer base blocks ss ds legs ↔ FirstFits x legs
  first_fits [] = (λ f. f, λ f. f)
  first_fits (i ∷ is) = first_fit x ds destination i is (
    λ f. bounded_fits x ss source i (vault_cost_of (map_of ss i) base) (costs i) (leg_bounded i f),
    λ f.
        let b = fits_bounded x ss source i (vault_cost_of (map_of ss i) base) (costs i) f in
        record { there = b.there; within = b.within; room = subst (λ n. vault_cost_of (map_of ss i) base ≤ n) (sym blocks_are) (b.room vault) },
  )

  pub vault_shipped : VaultFirst x.transfer base blocks ss ds x.transfer.legs ↔ ShippedFits x
  vault_shipped = (
    λ f. record {
      mirror = λ m. absurd (both_ways (is_mirror x.policy.kind) vault m);
      fresh = λ m. absurd (both_ways (is_mirror x.policy.kind) vault m);
      first = (first_fits x.transfer.legs).0 f;
    },
    λ f. (first_fits x.transfer.legs).1 f.first,
  )
