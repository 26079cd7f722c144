-- Families of volumes, as the definitions speak of them.
use Rattle.std.proofs.Common.{◌≡◌, ◌≢◌, ◌↔◌, ℕ, zero, suc, ◌-◌, ◌<◌, true, false, List, [], ◌∷◌, length, get_or, map, refl, sym, ap, subst, ◌∙◌, inl, inr, arith}
use Rattle.std.specs.Prelude.{Option, Some, None}
use Rattle.std.specs.List.{All}
use Rattle.std.proofs.lemmas.List.{length-map}
use Rattle.sm_base.specs.declared.limits.TheConstants.{FIRST_MADE_FAMILY}
use Rattle.sm_base.specs.declared.numbers.Ident.{Ident}
use Rattle.sm_base.specs.declared.numbers.Kind.TheVariants.{Dp}
use Rattle.sm_defs.specs.Words.{Among}
use Rattle.sm_defs.specs.Volume.{Volume, has, no_volume}
use Rattle.sm_defs.specs.Made.{family_of_transfer}
use Rattle.sm_defs.specs.Relationship.{Relationship, Transfer}
use Rattle.sm_defs.specs.World.{volume_at}
use Rattle.sm_model.specs.FamiliesStand.{IsFamily, IsBaseOrFirst, IsVaultTo}
use Rattle.sm_model.proofs.Families.{base_or_first}
use Rattle.sm_model.specs.declared.world.World.{World}
use Rattle.sm_model.specs.declared.world.WorldVolume.{WorldVolume}
use Rattle.sm_model.specs.declared.world.WorldSnapshot.{WorldSnapshot}
use Rattle.sm_shape.specs.Blank.{blank, blank_volume, blank_snapshot}
use Rattle.sm_shape.specs.Behind.{EachPlace}
use Rattle.sm_shape.specs.Given.{IsGivenFamily, HasGivenFamily, HasOtherFamily, HasOne, first_of, HasBaseOrFirst, LegAlone, RestsAt, OtherStands}
use Rattle.sm_shape.proofs.ListWords.{all_among, among_all, each_image, image_each}
use Rattle.sm_shape.proofs.RulesLemmas.{at_image}
use Rattle.sm_shape.proofs.PlacesLemmas.{no_snapshots, nil_image}

family_is : (w : World) (f : ℕ) → IsGivenFamily (length w.volumes.items) w.next_transfer f → IsFamily (blank w) f
family_is w f (inl lt) = inl (omega (arith, lt, length-map w.volumes.items blank_volume))
family_is w f (inr (from, lt)) = inr (f - FIRST_MADE_FAMILY, omega (arith, from), lt)

is_family : (w : World) (f : ℕ) → IsFamily (blank w) f → IsGivenFamily (length w.volumes.items) w.next_transfer f
is_family w f (inl lt) = inl (omega (arith, lt, length-map w.volumes.items blank_volume))
is_family w f (inr (t, is, lt)) = inr (omega (arith, is), omega (arith, is, lt))

pub given_of : (w : World) → All (HasGivenFamily (length w.volumes.items) w.next_transfer) w.volumes.items → (v : Volume) → Among (blank w).volumes v → IsFamily (blank w) v.family
given_of w all = each_image blank_volume (λ (v : Volume). IsFamily (blank w) v.family) w.volumes.items
    (λ v a. family_is w v.family (all_among (HasGivenFamily (length w.volumes.items) w.next_transfer) w.volumes.items all v a))

pub of_given : (w : World) → ((v : Volume) → Among (blank w).volumes v → IsFamily (blank w) v.family) → All (HasGivenFamily (length w.volumes.items) w.next_transfer) w.volumes.items
of_given w all = among_all (HasGivenFamily (length w.volumes.items) w.next_transfer) w.volumes.items
    (λ v a. is_family w v.family (image_each blank_volume (λ (v : Volume). IsFamily (blank w) v.family) w.volumes.items all v a))

-- some element stands at a place
some_at : {X : Type 0} (xs : List X) (n : ℕ) → n < length xs → (x : X) × (x ≡ get_or xs n x)
some_at [] n lt = absurd (omega arith)
some_at (x ∷ xs) zero lt = (x, refl)
some_at (x ∷ xs) (suc n) lt = some_at xs n (omega arith)

module _ (w : World) (r : Relationship) (t : Transfer) (source : List WorldSnapshot) (source_is : map blank_snapshot source ≡ (volume_at (blank w) r.source).snapshots) where
  abbrev HasFirst : Type 0
  HasFirst = (i : Ident) × IsBaseOrFirst r t.legs i × (has (volume_at (blank w) r.source).snapshots i ≡ true)

  there : (i : Ident) → has (map blank_snapshot source) i ≡ true → has (volume_at (blank w) r.source).snapshots i ≡ true
  there i h = ap (λ l. has l i) (sym source_is) ∙ h

  of_base : (o : Option Ident) → r.base ≡ o → HasOne o source → HasFirst
  of_base None e h = absurd h
  of_base (Some i) e h = (i, base_or_first r t.legs i e, there i h)

  of_first : (legs : List Ident) → t.legs ≡ legs → HasOne (first_of legs) source → HasFirst
  of_first [] e h = absurd h
  of_first (i ∷ is) e h = (i, subst (λ l. IsBaseOrFirst r l i) (sym e) (inr refl), there i h)

  pub source_has : HasBaseOrFirst r.base t.legs source → HasFirst
  source_has (inl h) = of_base r.base refl h
  source_has (inr h) = of_first t.legs refl h

  one_of : (legs : List Ident) (i : Ident) → IsBaseOrFirst r legs i → has (map blank_snapshot source) i ≡ true → HasBaseOrFirst r.base legs source
  one_of [] i e h = inl (subst (λ o. HasOne o source) (sym e) h)
  one_of (j ∷ js) i (inl e) h = inl (subst (λ o. HasOne o source) (sym e) h)
  one_of (j ∷ js) i (inr same) h = inr (subst (λ x. has (map blank_snapshot source) x ≡ true) same h)

  pub has_source : HasFirst → HasBaseOrFirst r.base t.legs source
  has_source (i, is, h) = one_of t.legs i is (ap (λ l. has l i) source_is ∙ h)

module _ (w : World) (r : Relationship) (t : Transfer) (destination : List WorldSnapshot) (destination_is : map blank_snapshot destination ≡ (volume_at (blank w) r.destination).snapshots) where
  abbrev vs : List WorldVolume
  vs = w.volumes.items

  abbrev Others : Type 0
  Others = EachPlace (OtherStands w.policies.items w.relations.items destination r t) vs

  abbrev Alone : Type 0
  Alone = (i : Ident) (n : ℕ) → Among t.legs i → has (volume_at (blank w) r.destination).snapshots i ≡ false →
      n < length (blank w).volumes → n ≢ r.destination → (volume_at (blank w) n).family ≡ family_of_transfer t.number → has (volume_at (blank w) n).snapshots i ≡ false

  abbrev Apart : Type 0
  Apart = (n : ℕ) → n < length (blank w).volumes → n ≢ r.destination → (volume_at (blank w) n).family ≡ family_of_transfer t.number → (volume_at (blank w) n).kind ≡ Dp →
      ((volume_at (blank w) n).snapshots ≢ []) × ((q : Relationship) → Among (blank w).relations q → IsVaultTo (blank w) n q → (q.base ≡ None) × (q.transfer ≡ None))

  -- the volume at a place
  record Placed (n : ℕ) : Type 0 where
    volume : WorldVolume
    is : volume_at (blank w) n ≡ blank_volume volume
    at : n < length vs
    same : volume ≡ get_or vs n volume

  placed : (n : ℕ) → n < length (blank w).volumes → Placed n
  placed n lt =
      let less : n < length vs = omega (arith, lt, length-map vs blank_volume) in
      let x = some_at vs n less in
      record { volume = x.0; is = at_image blank_volume vs n x.0 no_volume less x.1; at = less; same = x.1 }

  stands : Others → (n : ℕ) (p : Placed n) → OtherStands w.policies.items w.relations.items destination r t n p.volume
  stands all n p = subst (OtherStands w.policies.items w.relations.items destination r t n) (sym p.same) (all n p.volume p.at)

  pub alone_of : Others → Alone
  alone_of all i n leg lacks lt other family =
      let p = placed n lt in
      let o = stands all n p in
      let own : p.volume.family ≡ family_of_transfer t.number = ap (λ (v : Volume). v.family) (sym p.is) ∙ family in
      ap (λ (v : Volume). has v.snapshots i) p.is ∙ all_among (LegAlone destination p.volume.snapshots.items) t.legs (o.alone other own) i leg (ap (λ l. has l i) destination_is ∙ lacks)

  pub apart_of : Others → Apart
  apart_of all n lt other family dp =
      let p = placed n lt in
      let o = stands all n p in
      let own : p.volume.family ≡ family_of_transfer t.number = ap (λ (v : Volume). v.family) (sym p.is) ∙ family in
      let both = o.apart other own (ap (λ (v : Volume). v.kind) (sym p.is) ∙ dp) in
      (λ none. both.0 (no_snapshots p.volume.snapshots.items (ap (λ (v : Volume). v.snapshots) (sym p.is) ∙ none)), all_among (RestsAt w.policies.items n) w.relations.items both.1)

  pub others_of : Alone → Apart → Others
  others_of alone apart n d lt =
      let v = get_or vs n d in
      let is : volume_at (blank w) n ≡ blank_volume v = at_image blank_volume vs n v no_volume lt (get_or_again vs n d lt) in
      let less : n < length (blank w).volumes = omega (arith, lt, length-map vs blank_volume) in
      record {
        alone = λ other family. among_all (LegAlone destination v.snapshots.items) t.legs
            (λ i leg lacks. ap (λ (x : Volume). has x.snapshots i) (sym is) ∙ alone i n leg (ap (λ l. has l i) (sym destination_is) ∙ lacks) less other (ap (λ (x : Volume). x.family) is ∙ family));
        apart = λ other family dp.
            let both = apart n less other (ap (λ (x : Volume). x.family) is ∙ family) (ap (λ (x : Volume). x.kind) is ∙ dp) in
            (λ none. both.0 (ap (λ (x : Volume). x.snapshots) is ∙ nil_image v.snapshots.items none), among_all (RestsAt w.policies.items n) w.relations.items both.1);
      }
    where
      get_or_again : (xs : List WorldVolume) (n : ℕ) (d : WorldVolume) → n < length xs → get_or xs n d ≡ get_or xs n (get_or xs n d)
      get_or_again [] n d lt = absurd (omega arith)
      get_or_again (x ∷ xs) zero d lt = refl
      get_or_again (x ∷ xs) (suc n) d lt = get_or_again xs n d (omega arith)

pub others_have : (w : World) (number : ℕ) → All (HasOtherFamily number) w.volumes.items ↔ ((v : Volume) → Among (blank w).volumes v → v.family ≢ family_of_transfer number)
others_have w number = (
  λ all. each_image blank_volume (λ (v : Volume). v.family ≢ family_of_transfer number) w.volumes.items (all_among (HasOtherFamily number) w.volumes.items all),
  λ all. among_all (HasOtherFamily number) w.volumes.items (image_each blank_volume (λ (v : Volume). v.family ≢ family_of_transfer number) w.volumes.items all),
)
