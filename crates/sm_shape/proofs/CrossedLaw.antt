-- The world is crossed where each relationship fits behind those before it.
use Rattle.std.proofs.Common.{◌≡◌, ◌≢◌, ◌⊎◌, ℕ, ◌<◌, Bool, List, [], ◌∷◌, length, take, refl, sym, ap, subst, ◌∙◌, inl, inr}
use Rattle.std.specs.Prelude.{Option, Some, None, MatchOption}
use Rattle.std.specs.List.{filter_map, AllByRecursion}
use Rattle.std.proofs.lemmas.Option.{same_Some}
use Rattle.sm_defs.specs.Words.{Among, KeysDiffer}
use Rattle.sm_defs.specs.Relationship.{Relationship, Transfer}
use Rattle.sm_defs.specs.World.{Up, relation_at, no_relation}
use Rattle.sm_model.specs.Crossed.{Crossed, CrossedRelation, CrossedTransfer, destination_of, transfer_number}
use Rattle.sm_shape.specs.Crossing.{FitsAt, IsFirstMisfit, IsFirstCrossing, HasOtherDestination, HasOtherTransfer}
use Rattle.sm_shape.proofs.ListWords.{among_index, all_among, among_all}
use Rattle.sm_defs.proofs.Members.{among_get_or}
use Rattle.sm_shape.proofs.CrossingLaw.{Apart, new_apart, apart_new, Differ, apart_keys, keys_apart}

abbrev half : Relationship → Bool
half r = r.destination_half

-- transfers of other numbers
abbrev OtherNumbers : Relationship → Relationship → Type 0
OtherNumbers x y = (t u : Transfer) → x.transfer ≡ Some t → y.transfer ≡ Some u → t.number ≢ u.number

others : (xs : List Relationship) (n : ℕ) → ((y : Relationship) → Among xs y → (u : Transfer) → y.transfer ≡ Some u → n ≢ u.number)
    → AllByRecursion (λ (m : ℕ). ¬ (m ≡ n)) (filter_map transfer_number xs)
others [] n all = tt
others (x ∷ xs) n all = go x.transfer refl (others xs n (λ y a. all y (inr a)))
  where
    go : (o : Option Transfer) → x.transfer ≡ o → AllByRecursion (λ (m : ℕ). ¬ (m ≡ n)) (filter_map transfer_number xs) → AllByRecursion (λ (m : ℕ). ¬ (m ≡ n)) (filter_map transfer_number (x ∷ xs))
    go None e rest = rw e rest
    go (Some u) e rest = rw e (λ same. all x (inl refl) u e (sym same), rest)

numbers_differ : (xs : List Relationship) → Apart OtherNumbers xs → KeysDiffer (λ (n : ℕ). n) (filter_map transfer_number xs)
numbers_differ [] d = tt
numbers_differ (x ∷ xs) d = go x.transfer refl (numbers_differ xs d.1)
  where
    go : (o : Option Transfer) → x.transfer ≡ o → KeysDiffer (λ (n : ℕ). n) (filter_map transfer_number xs) → KeysDiffer (λ (n : ℕ). n) (filter_map transfer_number (x ∷ xs))
    go None e rest = rw e rest
    go (Some t) e rest = rw e (others xs t.number (λ y a u is. d.0 y a t u e is), rest)

pub crossed_of : (w : Up) → ((k : ℕ) → k < length w.relations → FitsAt w k) → Crossed w
crossed_of w fits = record {
  relations = λ r a. let t = among_index w.relations no_relation r a in subst (CrossedRelation w) t.is (fits t.at t.in_range).relation;
  transfers = λ r t a e. let i = among_index w.relations no_relation r a in subst (λ q. q.transfer ≡ Some t → CrossedTransfer w q t) i.is ((fits i.at i.in_range).transfer t) e;
  destinations_differ = apart_keys half destination_of w.relations (new_apart (Differ half destination_of) w.relations no_relation
      (λ k lt q a hy hx. all_among (HasOtherDestination (relation_at w k)) (take k w.relations) ((fits k lt).destination_new hy) q a hx));
  transfers_differ = numbers_differ w.relations (new_apart OtherNumbers w.relations no_relation
      (λ k lt q a t u et eu. all_among (HasOtherTransfer u.number) (take k w.relations) ((fits k lt).transfer_new u eu) q a t et));
}

known : (o : Option Transfer) → (o ≡ None) ⊎ ((t : Transfer) × (o ≡ Some t))
known None = inl refl
known (Some t) = inr (t, refl)

not_some : (t : Transfer) → None ≡ Some t → ⊥
not_some t e = absurd cc

from_others : (xs : List Relationship) (n : ℕ) → AllByRecursion (λ (m : ℕ). ¬ (m ≡ n)) (filter_map transfer_number xs)
    → (y : Relationship) → Among xs y → (u : Transfer) → y.transfer ≡ Some u → u.number ≢ n
from_others [] n all y a u e = absurd a
from_others (x ∷ xs) n all y a u e = elim (known x.transfer) [
  | inl none ↦ elim a [
    | inl same ↦ absurd (not_some u (sym none ∙ ap (λ (q : Relationship). q.transfer) (sym same) ∙ e))
    | inr later ↦ from_others xs n (rw none at all) y later u e
  ]
  | inr some ↦
      let both = rw some.1 at all in
      elim a [
        | inl same ↦
            let is : some.0 ≡ u = same_Some some.0 u (sym some.1 ∙ ap (λ (q : Relationship). q.transfer) (sym same) ∙ e) in
            subst (λ (t : Transfer). t.number ≢ n) is both.0
        | inr later ↦ from_others xs n both.1 y later u e
      ]
]

numbers_apart : (xs : List Relationship) → KeysDiffer (λ (n : ℕ). n) (filter_map transfer_number xs) → Apart OtherNumbers xs
numbers_apart [] d = tt
numbers_apart (x ∷ xs) d = elim (known x.transfer) [
  | inl none ↦ (λ y a t u et eu. absurd (not_some t (sym none ∙ et)), numbers_apart xs (rw none at d))
  | inr some ↦
      let both = rw some.1 at d in (
        λ y a t u et eu same.
            let is : some.0 ≡ t = same_Some some.0 t (sym some.1 ∙ et) in
            from_others xs some.0.number both.0 y a u eu (sym same ∙ ap (λ (z : Transfer). z.number) (sym is)),
        numbers_apart xs both.1,
      )
]

pub fits_of : (w : Up) → Crossed w → (k : ℕ) → k < length w.relations → FitsAt w k
fits_of w crossed k lt =
    let there : Among w.relations (relation_at w k) = among_get_or w.relations k no_relation lt in
    record {
      relation = crossed.relations (relation_at w k) there;
      transfer = λ t e. crossed.transfers (relation_at w k) t there e;
      destination_new = λ hr. among_all (HasOtherDestination (relation_at w k)) (take k w.relations)
          (λ q a hq. apart_new (Differ half destination_of) w.relations no_relation (keys_apart half destination_of w.relations crossed.destinations_differ) k lt q a hr hq);
      transfer_new = λ t e. among_all (HasOtherTransfer t.number) (take k w.relations)
          (λ q a u eu. apart_new OtherNumbers w.relations no_relation (numbers_apart w.relations crossed.transfers_differ) k lt q a u t eu e);
    }

-- where a relationship breaks a rule the world is not crossed
pub first_breaks : (w : Up) (k : ℕ) → k < length w.relations → ¬ (FitsAt w k) → ¬ (Crossed w)
first_breaks w k lt breaks = λ crossed. breaks (fits_of w crossed k lt)

pub told : (w : Up) (found : Option ℕ) → MatchOption found (Crossed w) (IsFirstMisfit w) → MatchOption found (Crossed w) (IsFirstCrossing w)
told w None crossed = crossed
told w (Some k) misfit = record { misfit = misfit; not_crossed = first_breaks w k misfit.place misfit.breaks }
