-- The numbers that a set does not have.
use Rattle.std.proofs.Common.{◌≡◌, inl, inr, ℕ, zero, suc, ◌+◌, set, ◌<◌, ◌≤◌, not, ◌&&◌, ◌||◌, Bool, true, false, replicate, map, List, [], ◌∷◌, length, refl, sym, ◌∙◌, ap, arith}
use Rattle.std.proofs.lemmas.Bool.{cases_eq}
use Rattle.std.proofs.lemmas.List.{length-map, length-replicate, ext_get_or, get_or-set_same, get_or-set_other, length-set}
use Rattle.sm_bits.specs.Places.{has, union_of, difference_of}
use Rattle.sm_space.specs.Free.{free_of}

pub length-free_of : (used : List Bool) → length (free_of used) ≡ length used
length-free_of [] = refl
length-free_of (hole ∷ numbers) = ap suc (length-map numbers (λ used. not used))

-- all numbers, put there to the end
pub same_all : (n : ℕ) (all : List Bool) (number : ℕ) → length all ≡ n → n ≤ number → ((k : ℕ) → k < number → has all k ≡ has (free_of (replicate n false)) k) → all ≡ free_of (replicate n false)
same_all n all number long whole done =
    ext_get_or false all (free_of (replicate n false)) (long ∙ sym (length-free_of (replicate n false) ∙ length-replicate n false)) (λ k less. done k (omega arith))

-- all numbers, and those that are left of them
pub all_but_used : (used : List Bool) → difference_of (free_of (replicate (length used) false)) used ≡ free_of used
all_but_used [] = refl
all_but_used (hole ∷ numbers) = ap (λ (l : List Bool). false ∷ l) (rest numbers)
  where
    rest : (us : List Bool) → difference_of (map (λ u. not u) (replicate (length us) false)) us ≡ map (λ u. not u) us
    rest [] = refl
    rest (u ∷ us) = ap (λ (l : List Bool). not u ∷ l) (rest us)

-- some numbers with all
pub some_and_all : (free : List Bool) → has free 0 ≡ false → union_of free (free_of (replicate (length free) false)) ≡ free_of (replicate (length free) false)
some_and_all [] none = refl
some_and_all (hole ∷ numbers) none = ap (λ (b : Bool). (b || false) ∷ union_of numbers (map (λ u. not u) (replicate (length numbers) false))) none
    ∙ ap (λ (l : List Bool). false ∷ l) (rest numbers)
  where
    or_true : (a : Bool) → (a || true) ≡ true
    or_true true = refl
    or_true false = refl

    rest : (fs : List Bool) → union_of fs (map (λ u. not u) (replicate (length fs) false)) ≡ map (λ u. not u) (replicate (length fs) false)
    rest [] = refl
    rest (f ∷ fs) = ap (λ (b : Bool). b ∷ union_of fs (map (λ u. not u) (replicate (length fs) false))) (or_true f) ∙ ap (λ (l : List Bool). true ∷ l) (rest fs)

pub hole_of_none : (n : ℕ) → has (replicate n false) 0 ≡ false
hole_of_none zero = refl
hole_of_none (suc n) = refl

pub length_all : (n : ℕ) → length (free_of (replicate n false)) ≡ n
length_all n = length-free_of (replicate n false) ∙ length-replicate n false

-- what is in the set of all numbers, and in the empty one
pub has_all : (n k : ℕ) → 1 ≤ k → k < n → has (free_of (replicate n false)) k ≡ true
has_all zero k one less = absurd (omega arith)
has_all (suc n) zero one less = absurd (omega arith)
has_all (suc n) (suc k) one less = rest n k (omega arith)
  where
    rest : (m j : ℕ) → j < m → has (map (λ u. not u) (replicate m false)) j ≡ true
    rest zero j less = absurd (omega arith)
    rest (suc m) zero less = refl
    rest (suc m) (suc j) less = rest m j (omega arith)

pub hole_of_all : (n : ℕ) → has (free_of (replicate n false)) 0 ≡ false
hole_of_all zero = refl
hole_of_all (suc n) = refl

-- one more number
pub one_more : (n : ℕ) (all : List Bool) (number : ℕ) → length all ≡ n → 1 ≤ number → number < n → ((k : ℕ) → k < number → has all k ≡ has (free_of (replicate n false)) k)
    → (new : List Bool) → new ≡ set all number true → (length new ≡ n) × ((k : ℕ) → k < number + 1 → has new k ≡ has (free_of (replicate n false)) k)
one_more n all number long one less done new is = (
  ap length is ∙ length-set all number true ∙ long,
  λ k below. ap (λ (l : List Bool). has l k) is ∙ elim (cases_eq k number) [
    | inl here ↦
        ap (has (set all number true)) here ∙ get_or-set_same all number true false (omega (arith, long, less))
        ∙ sym (ap (has (free_of (replicate n false))) here ∙ has_all n number one less)
    | inr other ↦ get_or-set_other all number k true false other ∙ done k (omega (arith, other, below))
  ],
)

-- some numbers, and then all
pub joined : (free all new : List Bool) (n : ℕ) → length free ≡ n → has free 0 ≡ false → all ≡ free_of (replicate n false) → new ≡ union_of free all → new ≡ free_of (replicate n false)
joined free all new n same hole whole is =
    is ∙ ap (union_of free) (whole ∙ ap (λ m. free_of (replicate m false)) (sym same)) ∙ some_and_all free hole ∙ ap (λ m. free_of (replicate m false)) same
