-- A test that is true exactly where a fact holds.
use Rattle.std.proofs.Common.{◌≡◌, ◌↔◌, Bool, true, false, refl, inl, inr}
use Rattle.std.specs.Prelude.{IsTrue}
use Rattle.std.proofs.lemmas.Bool.{cases_Bool, both_ways}

pub not_true : IsTrue false → ⊥
not_true e = absurd cc

pub decided : {P : Type 0} (b : Bool) → (b ≡ true → P) → (b ≡ false → ¬ P) → IsTrue b ↔ P
decided b good bad = elim (cases_Bool b) [
  | inl is ↦ (λ e. good is, λ p. is)
  | inr is ↦ (λ e. absurd (not_true (rw is at e)), λ p. absurd (bad is p))
]

pub answered_no : {P : Type 0} → ¬ P → IsTrue false ↔ P
answered_no bad = (λ e. absurd (not_true e), λ p. absurd (bad p))

pub answered_yes : {P : Type 0} → P → IsTrue true ↔ P
answered_yes p = (λ e. p, λ q. refl)

-- both tests hold
pub both_hold : {P Q R : Type 0} (a b : Bool) → a ≡ true → (IsTrue a ↔ P) → (IsTrue b ↔ Q) → (P → Q → R) → (R → Q) → IsTrue b ↔ R
both_hold a b good first second join part = (λ e. join (first.0 good) (second.0 e), λ r. second.1 (part r))

pub first_fails : {P R : Type 0} (a : Bool) → a ≡ false → (IsTrue a ↔ P) → (R → P) → IsTrue false ↔ R
first_fails a bad first part = answered_no (λ r. both_ways a bad (first.1 (part r)))

pub and_so : {P Q : Type 0} {A : Type 0} → (A ↔ P) → (P ↔ Q) → A ↔ Q
and_so ab bc = (λ a. bc.0 (ab.0 a), λ q. ab.1 (bc.1 q))

-- the second test of two, where the first holds
pub both_are : {P Q : Type 0} (a b : Bool) → (IsTrue a ↔ P) → a ≡ true → (IsTrue b ↔ Q) → IsTrue b ↔ (P × Q)
both_are a b first good second = (λ e. (first.0 good, second.0 e), λ pq. second.1 pq.1)
