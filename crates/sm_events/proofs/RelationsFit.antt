-- The catalogue with a further relationship has a spelling.
use Rattle.std.proofs.Common.{◌≡◌, ℕ, ◌<◌, ◌==◌, Bool, true, false, List, [], ◌∷◌, ◌++◌, length, map, refl, sym, ◌∙◌, ap, subst, inl, inr, Option, Some, None, Result, Ok, Err, arith, length-append}
use Rattle.std.specs.Prelude.{◌||◌}
use Rattle.std.specs.List.{AllByRecursion}
use Rattle.std.specs.Str.{bytes_eq}
use Rattle.std.proofs.lemmas.Bool.{eq-eqb}
use Rattle.sm_base.specs.declared.limits.TheConstants.{MOST_RELATIONS, LAST_RELATION}
use Rattle.sm_base.specs.declared.refusal.What.TheVariants.{Relations}
use Rattle.sm_base.specs.declared.refusal.Refusal.{Refusal}
use Rattle.sm_base.specs.declared.refusal.Refusal.TheVariants as refusals
use Rattle.sm_defs.specs.Relationship.{Policy}
use Rattle.sm_defs.specs.Volume.{Volume}
use Rattle.sm_defs.specs.Words.{Among, Ascends, Found, found}
use Rattle.sm_defs.specs.World.{Up}
use Rattle.sm_defs.proofs.Members.{among_map, among_push}
use Rattle.sm_defs.proofs.Searches.{found_within}
use Rattle.sm_relation.specs.declared.relation.Relation.{Relation}
use Rattle.sm_model.specs.Answers.{and_then, refused_if, some_or}
use Rattle.sm_model.specs.Sound.{SoundUp}
use Rattle.sm_shape.specs.Blanked.{blanked}
use Rattle.sm_catroot.specs.Catalog.{Catalog}
use Rattle.sm_catroot.specs.Condition.{IsCatalog, IsRelation, number_of}
use Rattle.sm_node.specs.Nodes.{Node, world_of, stopped_relation}
use Rattle.sm_events.specs.Deciding.{IsNext}
use Rattle.sm_events.specs.Relating.{new_relation, with_new_relation, are_full, relation_test, related_at, related}

-- ---- what a passed test tells

either : (a b : Bool) → (a || b) ≡ false → (a ≡ false) × (b ≡ false)
either true b e = absurd cc
either false b e = (refl, e)

not_both : (b : Bool) → b ≡ true → b ≡ false → ⊥
not_both b t f = let bad : true ≡ false = sym t ∙ f in absurd cc

pub not_full : (k : Catalog) → are_full k ≡ false → ¬ (length k.relations ≡ MOST_RELATIONS) × ¬ (k.next_relation ≡ LAST_RELATION)
not_full k e =
    let both = either (length k.relations == MOST_RELATIONS) (k.next_relation == LAST_RELATION) e in (
      λ same. not_both (length k.relations == MOST_RELATIONS) (eq-eqb (length k.relations) MOST_RELATIONS same) both.0,
      λ same. not_both (k.next_relation == LAST_RELATION) (eq-eqb k.next_relation LAST_RELATION same) both.1,
    )

last_passed : (r : Result (Unit {0}) Refusal) (b c d : Bool) (u : Unit {0}) → and_then r (λ _. and_then (refused_if b refusals.SizeMismatch) (λ _. and_then (refused_if c refusals.Cycle) (λ _. refused_if d (refusals.Full Relations)))) ≡ Ok u → d ≡ false
unfolding and_then refused_if
last_passed (Err g) b c d u e = absurd cc
last_passed (Ok v) true c d u e = absurd cc
last_passed (Ok v) false true d u e = absurd cc
last_passed (Ok v) false false true u e = absurd cc
last_passed (Ok v) false false false u e = refl

pub test_room : (k : Catalog) (w : Up) (source destination policy : ℕ) (u : Unit {0}) → relation_test k w source destination policy ≡ Ok u → are_full k ≡ false
test_room k w source destination policy u e = last_passed _ _ _ (are_full k) u e

-- ---- numbers ascend

all_more : (n : ℕ) (rs : List Relation) (r : Relation) → AllByRecursion (λ m. n < m) (map number_of rs) → n < number_of r → AllByRecursion (λ m. n < m) (map number_of (rs ++ r ∷ []))
all_more n [] r all lt = (lt, tt)
all_more n (x ∷ rs) r all lt = (all.0, all_more n rs r all.1 lt)

ascends_more : (rs : List Relation) (r : Relation) → Ascends (map number_of rs) → ((q : Relation) → Among rs q → number_of q < number_of r) → Ascends (map number_of (rs ++ r ∷ []))
ascends_more [] r up below = (tt, tt)
ascends_more (x ∷ rs) r up below = (all_more (number_of x) rs r up.0 (below x (inl refl)), ascends_more rs r up.1 (λ q a. below q (inr a)))

-- ---- the next catalogue

module _ (k : Catalog) (fit : IsCatalog k) (given : (q : Relation) → Among k.relations q → number_of q < k.next_relation) where
  with_fits : (source destination policy : ℕ) → source < length k.volumes → destination < length k.volumes → policy < length k.policies → are_full k ≡ false → IsCatalog (with_new_relation k source destination policy)
  with_fits source destination policy s d p room =
      let r = new_relation k.next_relation source destination policy in
      let left = not_full k room in
      let next = fit.next_relation in
      let few_volumes = fit.few_volumes in
      let few_policies = fit.few_policies in
      let few = fit.few_relations in
      let whole : IsRelation r = record {
        number = next;
        source = omega (arith, s, few_volumes);
        destination = omega (arith, d, few_volumes);
        policy = omega (arith, p, few_policies);
        halves = inl refl;
        base = tt;
        transfer = tt;
      } in
      record {
        clock = fit.clock;
        next_relation = (let least = next.0 in let most = next.1 in let other = left.1 in (omega (arith, least), omega (arith, most, other)));
        next_transfer = fit.next_transfer;
        few_volumes = fit.few_volumes;
        volumes = fit.volumes;
        paths_differ = fit.paths_differ;
        few_policies = fit.few_policies;
        policies = fit.policies;
        names_differ = fit.names_differ;
        few_relations = (let longer = length-append k.relations (r ∷ []) in let other = left.0 in omega (arith, longer, few, other));
        relations = λ q a. elim (among_push k.relations r q a) [
          | inl old ↦ fit.relations q old
          | inr new ↦ subst IsRelation (sym new) whole
        ];
        ascends = ascends_more k.relations r fit.ascends given;
      }

  next_at : (w : Up) (source destination policy : ℕ) → source < length k.volumes → destination < length k.volumes → policy < length k.policies → IsNext k (related_at k w source destination policy)
  unfolding and_then
  next_at w source destination policy s d p = go (relation_test k w source destination policy) refl
    where
      go : (t : Result (Unit {0}) Refusal) → relation_test k w source destination policy ≡ t → IsNext k (and_then t (λ _. Ok (with_new_relation k source destination policy)))
      go (Err g) e = tt
      go (Ok u) e = (refl, with_fits source destination policy s d p (test_room k w source destination policy u e))

  pub related_next : (w : Up) → length w.volumes ≡ length k.volumes → w.policies ≡ k.policies → (source destination policy : List ℕ) → IsNext k (related k w source destination policy)
  unfolding and_then some_or
  related_next w volumes policies source destination policy = go_source (found named_source w.volumes) refl
    where
      named_source : Volume → Bool
      named_source v = bytes_eq v.path source

      named_destination : Volume → Bool
      named_destination v = bytes_eq v.path destination

      named_policy : Policy → Bool
      named_policy p = bytes_eq p.name policy

      go_policy : (s d : Found Volume) → s.at < length k.volumes → d.at < length k.volumes → (o : Option (Found Policy)) → found named_policy w.policies ≡ o → IsNext k (and_then (some_or (refusals.NoPolicy policy) o) (λ p. related_at k w s.at d.at p.at))
      go_policy s d s_in d_in None e = tt
      go_policy s d s_in d_in (Some p) e = next_at w s.at d.at p.at s_in d_in (let within = found_within named_policy w.policies p e in omega (arith, within, ap length policies))

      go_destination : (s : Found Volume) → s.at < length k.volumes → (o : Option (Found Volume)) → found named_destination w.volumes ≡ o
          → IsNext k (and_then (some_or (refusals.NoVolume destination) o) (λ d. and_then (some_or (refusals.NoPolicy policy) (found named_policy w.policies)) (λ p. related_at k w s.at d.at p.at)))
      go_destination s s_in None e = tt
      go_destination s s_in (Some d) e = go_policy s d s_in (let within = found_within named_destination w.volumes d e in omega (arith, within, volumes)) (found named_policy w.policies) refl

      go_source : (o : Option (Found Volume)) → found named_source w.volumes ≡ o
          → IsNext k (and_then (some_or (refusals.NoVolume source) o) (λ s. and_then (some_or (refusals.NoVolume destination) (found named_destination w.volumes)) (λ d. and_then (some_or (refusals.NoPolicy policy) (found named_policy w.policies)) (λ p. related_at k w s.at d.at p.at))))
      go_source None e = tt
      go_source (Some s) e = go_destination s (let within = found_within named_source w.volumes s e in omega (arith, within, volumes)) (found named_destination w.volumes) refl

-- of a node whose world is sound
pub numbers_below : {D : Type 0} (n : Node D) → SoundUp (blanked (world_of n)) → (q : Relation) → Among n.root.held.relations q → number_of q < n.root.held.next_relation
numbers_below n sound q a = (sound.crossed.relations (stopped_relation q) (among_map stopped_relation n.root.held.relations q a)).given
