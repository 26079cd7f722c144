-- The numbers from one on, by their places.
use Rattle.std.proofs.Common.{◌≡◌, ℕ, zero, suc, ◌+◌, ◌<◌, List, [], ◌∷◌, length, get_or, refl, ap, ap₂, arith}
use Rattle.sm_defs.specs.Volume.{numbers}

pub long_numbers : (n t : ℕ) → length (numbers t n) ≡ n
long_numbers zero t = refl
long_numbers (suc n) t = ap suc (long_numbers n (suc t))

pub number_at : (n t k : ℕ) → k < n → get_or (numbers t n) k 0 ≡ t + k
number_at zero t k lt = absurd (omega arith)
number_at (suc n) t zero lt = omega arith
number_at (suc n) t (suc k) lt = let there = number_at n (suc t) k (omega arith) in omega (arith, there)

pub are_numbers : (ns : List ℕ) (t : ℕ) → ((k : ℕ) → k < length ns → get_or ns k 0 ≡ t + k) → ns ≡ numbers t (length ns)
are_numbers [] t each = refl
are_numbers (n ∷ ns) t each =
    let first : n ≡ t = omega (arith, each 0 (omega arith)) in
    ap₂ (λ x l. x ∷ l) first (are_numbers ns (suc t) (λ k lt. omega (arith, each (suc k) (omega arith))))
