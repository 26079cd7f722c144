-- The steps of a loop that tests each element at its place, and keys that are new one after the other.
use Rattle.std.proofs.Common.{◌≡◌, ◌↔◌, ℕ, ◌+◌, ◌<◌, ◌≤◌, Bool, true, false, List, [], ◌∷◌, length, get_or, sym, subst, ◌∙◌, inl, inr, arith}
use Rattle.std.specs.Prelude.{IsTrue}
use Rattle.std.proofs.lemmas.Bool.{both_ways, cases_eq}
use Rattle.std.proofs.lemmas.List.{get_or_default}
use Rattle.sm_defs.specs.Words.{KeysDiffer}
use Rattle.sm_defs.proofs.Members.{each_among, among_each}
use Rattle.sm_shape.specs.Behind.{EachPlace}
use Rattle.sm_shape.proofs.Tests.{answered_no, answered_yes}
use Rattle.sm_shape.proofs.CrossingLaw.{Apart}

module _ {X : Type 0} (F : ℕ → X → Type 0) (xs : List X) (k : ℕ) where
  -- at the first k places
  abbrev pub Before : Type 0
  Before = (j : ℕ) (d : X) → j < k → F j (get_or xs j d)

  pub place_stops : (x : X) → k < length xs → x ≡ get_or xs k x → (b : Bool) → (IsTrue b ↔ F k x) → b ≡ false → IsTrue false ↔ EachPlace F xs
  place_stops x lt is b test bad = answered_no (λ all. both_ways b bad (test.1 (subst (F k) (sym is) (all k x lt))))

  pub place_goes : (x : X) → k < length xs → x ≡ get_or xs k x → (b : Bool) → (IsTrue b ↔ F k x) → b ≡ true → Before → (j : ℕ) (d : X) → j < k + 1 → F j (get_or xs j d)
  place_goes x lt is b test good before j d less = elim (cases_eq j k) [
    | inr other ↦ before j d (omega arith)
    | inl same ↦
        let here : x ≡ get_or xs k d = is ∙ sym (get_or_default xs k d x lt) in
        subst (λ n. F n (get_or xs n d)) (sym same) (subst (F k) here (test.0 good))
  ]

  pub place_ends : length xs ≤ k → Before → IsTrue true ↔ EachPlace F xs
  place_ends end before = answered_yes (λ j d lt. before j d (omega arith))

-- keys that are new one after the other differ
pub keys_of_apart : {X K : Type 0} (key : X → K) (xs : List X) → Apart (λ x y. ¬ (key y ≡ key x)) xs → KeysDiffer key xs
keys_of_apart key [] d = tt
keys_of_apart key (x ∷ xs) d = (each_among (λ y. ¬ (key y ≡ key x)) xs (λ y a. d.0 y a), keys_of_apart key xs d.1)

pub apart_of_keys : {X K : Type 0} (key : X → K) (xs : List X) → KeysDiffer key xs → Apart (λ x y. ¬ (key y ≡ key x)) xs
apart_of_keys key [] d = tt
apart_of_keys key (x ∷ xs) d = (λ y a. among_each (λ z. ¬ (key z ≡ key x)) xs y d.0 a, apart_of_keys key xs d.1)
