-- What stands at a place of a list.
use Rattle.std.proofs.Common.{◌≡◌, ◌⊎◌, inl, inr, ⊎_elim, ℕ, zero, suc, ◌<◌, List, [], ◌∷◌, ◌++◌, length, Some, refl, sym, ◌∙◌, ap, arith}
use Rattle.std.specs.Prelude.{slice_get, Option}

pub some_at : {X : Type 0} (xs : List X) (i : ℕ) → i < length xs → (x : X) × (slice_get xs i ≡ Some x)
some_at [] i lt = absurd (omega arith)
some_at (x ∷ xs) zero lt = (x, refl)
some_at (x ∷ xs) (suc i) lt = some_at xs i (omega arith)

pub one_value : {X : Type 0} (o : Option X) (x y : X) → o ≡ Some x → o ≡ Some y → x ≡ y
one_value o x y e f = let g = sym e ∙ f in cc

-- of a list with one more behind it, what stands at a place stands in the list, or is the last
pub last_or : {X : Type 0} (xs : List X) (y : X) (i : ℕ) (a : X) → slice_get (xs ++ y ∷ []) i ≡ Some a → ((i < length xs) × (slice_get xs i ≡ Some a)) ⊎ ((i ≡ length xs) × (y ≡ a))
last_or [] y zero a e = inr (refl, cc)
last_or [] y (suc i) a e = absurd (cc)
last_or (x ∷ xs) y zero a e = inl (omega arith, e)
last_or (x ∷ xs) y (suc i) a e = ⊎_elim (λ h. inl (let l = h.0 in omega arith, h.1)) (λ h. inr (ap suc h.0, h.1)) (last_or xs y i a e)
