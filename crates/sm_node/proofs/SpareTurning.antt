-- Disks that hold nothing, restarted one after another.
use Rattle.std.proofs.Common.{◌≡◌, inl, inr, ℕ, List, Some, None, refl, sym, ◌∙◌, ap, subst, ◌<◌, ◌+◌, arith}
use Rattle.std.specs.Prelude.{slice_get, slice_set, Option, IfSome}
use Rattle.std.proofs.lemmas.List.{length-set}
use Rattle.std.proofs.lemmas.Bool.{cases_eq}
use Rattle.std.proofs.lemmas.Option.{slice_get_within}
use Rattle.sm_disk.specs.Disk.{DiskState, IsSynced}
use Rattle.sm_disk.proofs.Moments.{begun, joined, weaker, at_end}
use Rattle.sm_node.specs.Turning.{SpareTurns, SparesTurn}
use Rattle.sm_seats.proofs.Lists.{one_value}
use Rattle.sm_node.proofs.Lists.{get_set_other, get_set_same}

module _ {D : Type 0} (state : D → DiskState) where
  stays : (x : Option D) → SpareTurns state x x
  stays None = tt
  stays (Some d) = begun (state d) (state d).may_leave

  pub spares_stay : (xs : List (Option D)) → SparesTurn state xs xs
  spares_stay xs = record { as_long = refl; each = λ i x y e f. subst (λ (z : Option D). SpareTurns state x z) (one_value (slice_get xs i) x y e f) (stays x) }

  turns_on : (x y z : Option D) → SpareTurns state x y → SpareTurns state y z → SpareTurns state x z
  turns_on None None None a b = tt
  turns_on None None (Some c) a b = absurd b
  turns_on None (Some y) z a b = absurd a
  turns_on (Some x) None z a b = absurd a
  turns_on (Some x) (Some y) None a b = absurd b
  turns_on (Some x) (Some y) (Some z) a b = joined (state x) (state y) (state z) _ a (weaker (state y) (state z) _ _ b (λ c may. at_end (state x) (state y) _ a (λ d now. now) c may))

  pub spares_one : (olds mids : List (Option D)) (at : ℕ) (x y : Option D) → SparesTurn state olds mids → slice_get mids at ≡ Some x → SpareTurns state x y → SparesTurn state olds (slice_set mids at y)
  spares_one olds mids at x y before there turns = record {
    as_long = length-set mids at y ∙ before.as_long;
    each = λ i a b e f. elim (cases_eq i at) [
      | inl same ↦
          let here : slice_get (slice_set mids at y) at ≡ Some b = subst (λ (j : ℕ). slice_get (slice_set mids at y) j ≡ Some b) same f in
          let is : y ≡ b = one_value (slice_get (slice_set mids at y) at) y b (get_set_same mids at y (slice_get_within mids at x there)) here in
          subst (λ (z : Option D). SpareTurns state a z) is (turns_on a x y (before.each i a x e (ap (λ (j : ℕ). slice_get mids j) same ∙ there)) turns)
      | inr ne ↦ before.each i a b e (sym (get_set_other mids at i y ne) ∙ f)
    ];
  }

  synced_some : (y : Option D) (x : D) → IfSome y (λ d. IsSynced (state d)) → y ≡ Some x → IsSynced (state x)
  synced_some None x h e = absurd (cc)
  synced_some (Some d) x h e = subst (λ (z : D). IsSynced (state z)) (let same : d ≡ x = cc in same) h

  -- one more has nothing pending
  pub synced_one : (mids : List (Option D)) (at : ℕ) (x y : Option D) → slice_get mids at ≡ Some x → IfSome y (λ d. IsSynced (state d)) → ((k : ℕ) (z : D) → k < at → slice_get mids k ≡ Some (Some z) → IsSynced (state z))
      → (k : ℕ) (z : D) → k < at + 1 → slice_get (slice_set mids at y) k ≡ Some (Some z) → IsSynced (state z)
  synced_one mids at x y there now before k z lt e = elim (cases_eq k at) [
    | inl same ↦
        let here : slice_get (slice_set mids at y) at ≡ Some (Some z) = subst (λ (j : ℕ). slice_get (slice_set mids at y) j ≡ Some (Some z)) same e in
        synced_some y z now (one_value (slice_get (slice_set mids at y) at) y (Some z) (get_set_same mids at y (slice_get_within mids at x there)) here)
    | inr ne ↦ before k z (omega (arith, lt, ne)) (sym (get_set_other mids at k y ne) ∙ e)
  ]
