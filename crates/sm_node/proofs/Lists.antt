-- A list with one element changed.
use Rattle.std.proofs.Common.{◌≡◌, ◌≢◌, ℕ, zero, suc, ◌<◌, List, [], ◌∷◌, length, map, Some, None, refl, sym, ◌∙◌, ap, arith}
use Rattle.std.specs.Prelude.{slice_get, slice_set, Option, option_map}
use Rattle.std.proofs.lemmas.Option.{slice_get-map}

pub get_set_other : {X : Type 0} (xs : List X) (i d : ℕ) (x : X) → d ≢ i → slice_get (slice_set xs i x) d ≡ slice_get xs d
get_set_other [] i d x ne = refl
get_set_other (y ∷ xs) zero zero x ne = absurd (ne refl)
get_set_other (y ∷ xs) zero (suc d) x ne = refl
get_set_other (y ∷ xs) (suc i) zero x ne = refl
get_set_other (y ∷ xs) (suc i) (suc d) x ne = get_set_other xs i d x (λ e. ne (ap suc e))

pub get_set_same : {X : Type 0} (xs : List X) (i : ℕ) (x : X) → i < length xs → slice_get (slice_set xs i x) i ≡ Some x
get_set_same [] i x lt = absurd (omega arith)
get_set_same (y ∷ xs) zero x lt = refl
get_set_same (y ∷ xs) (suc i) x lt = get_set_same xs i x (omega arith)

-- what stands there is put there again
pub set_again : {X : Type 0} (xs : List X) (i : ℕ) (x : X) → slice_get xs i ≡ Some x → slice_set xs i x ≡ xs
set_again [] i x e = refl
set_again (y ∷ xs) zero x e = ap (λ z. z ∷ xs) (let same : y ≡ x = cc in sym same)
set_again (y ∷ xs) (suc i) x e = ap (λ zs. y ∷ zs) (set_again xs i x e)

mapped_by : {X Y : Type 0} (f : X → Y) (o : Option X) (y : Y) → option_map f o ≡ Some y → (x : X) × (o ≡ Some x) × (f x ≡ y)
mapped_by f None y e = absurd (cc)
mapped_by f (Some x) y e = (x, refl, cc)

-- an element of a mapped list is that of an element
pub mapped_at : {X Y : Type 0} (f : X → Y) (xs : List X) (i : ℕ) (y : Y) → slice_get (map f xs) i ≡ Some y → (x : X) × (slice_get xs i ≡ Some x) × (f x ≡ y)
mapped_at f xs i y e = mapped_by f (slice_get xs i) y (sym (slice_get-map f xs i) ∙ e)

pub mapped_to : {X Y : Type 0} (f : X → Y) (xs : List X) (i : ℕ) (x : X) → slice_get xs i ≡ Some x → slice_get (map f xs) i ≡ Some (f x)
mapped_to f xs i x e = slice_get-map f xs i ∙ ap (option_map f) e

-- a key that the change leaves
pub keys_set : {X Y : Type 0} (f : X → Y) (xs : List X) (i : ℕ) (x y : X) → slice_get xs i ≡ Some x → f y ≡ f x → map f (slice_set xs i y) ≡ map f xs
keys_set f [] i x y e same = refl
keys_set f (z ∷ xs) zero x y e same = ap (λ k. k ∷ map f xs) (same ∙ ap f (let is : x ≡ z = cc in is))
keys_set f (z ∷ xs) (suc i) x y e same = ap (λ ks. f z ∷ ks) (keys_set f xs i x y e same)
