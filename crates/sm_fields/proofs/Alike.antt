-- Formats that read alike at every place, as one tested by a table and one tested by what it stands for.
use Rattle.std.proofs.Common.{◌≡◌, ℕ, zero, suc, Bool, cond, List, [], ◌∷◌, ◌++◌, Result, Ok, Err, refl}
use Rattle.sm_fields.specs.Format.{Format, in_turn}
use Rattle.sm_fields.specs.Place.{Place}
use Rattle.sm_fields.specs.Reading.{and_then, read}

pub record Alike {A : Type 0} (f g : Format A) : Type 0 where
  pub at : (p : Place) → read f p ≡ read g p

pub alike_same : {A : Type 0} (f : Format A) → Alike f f
alike_same f = record { at = λ p. refl }

tested : {A : Type 0} (r : Result (A × Place) ℕ) (at : ℕ) (a b : A → Bool) → ((x : A) → a x ≡ b x) → and_then r (λ x. cond (a x.0) (Ok x) (Err at)) ≡ and_then r (λ x. cond (b x.0) (Ok x) (Err at))
tested (Ok x) at a b same = rw (same x.0) refl
tested (Err k) at a b same = refl

pub alike_such_that : {A : Type 0} (f : Format A) (a b : A → Bool) → ((x : A) → a x ≡ b x) → Alike (Format.such_that f a) (Format.such_that f b)
alike_such_that f a b same = record { at = λ p. tested (read f p) p.at a b same }

followed : {A B : Type 0} (r : Result (A × Place) ℕ) (next other : A → Format B) → ((x : A) → Alike (next x) (other x)) → and_then r (λ x. read (next x.0) x.1) ≡ and_then r (λ x. read (other x.0) x.1)
followed (Ok x) next other alike = (alike x.0).at x.1
followed (Err k) next other alike = refl

pub alike_then : {A B : Type 0} (f g : Format A) (next other : A → Format B) → Alike f g → ((x : A) → Alike (next x) (other x)) → Alike (Format.then f next) (Format.then g other)
alike_then f g next other first alike = record { at = λ p. rw first.at (followed (read g p) next other alike) }

pub alike_in_turn : {A : Type 0} (next other : List A → Format A) → ((before : List A) → Alike (next before) (other before)) → (before : List A) (n : ℕ) → Alike (in_turn next before n) (in_turn other before n)
unfolding in_turn
alike_in_turn next other alike before zero = record { at = λ p. refl }
alike_in_turn next other alike before (suc n) =
    alike_then (next before) (other before) _ _ (alike before)
    (λ x. alike_then (in_turn next (before ++ x ∷ []) n) (in_turn other (before ++ x ∷ []) n) _ _ (alike_in_turn next other alike (before ++ x ∷ []) n) (λ xs. alike_same (Format.empty (x ∷ xs))))
