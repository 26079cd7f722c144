-- One bit of a union and of a difference of words.
use Rattle.std.proofs.Common.{◌≡◌, ℕ, ◌-◌, ◌^◌, ◌<◌, ◌&&◌, ◌||◌, not, eqb, max, min, bit_and, bit_or, w64, ap, ◌∙◌, arith}
use Rattle.std.proofs.lemmas.Bool.Decides.{nat_tests}
use Rattle.std.proofs.lemmas.Nat.Bits.{bit_at_or, bit_at_and, bit_at_not, bit_at-lt}
use Rattle.std.specs.Int.{bit_at, bit_not}

pub or_bit : (a b i : ℕ) → eqb (bit_at (bit_or a b) i) 1 ≡ (eqb (bit_at a i) 1 || eqb (bit_at b i) 1)
or_bit a b i = ap (λ n. eqb n 1) (bit_at_or a b i) ∙ larger (bit_at a i) (bit_at b i) (bit_at-lt a i) (bit_at-lt b i)
  where
    larger : (x y : ℕ) → x < 2 → y < 2 → eqb (max x y) 1 ≡ (eqb x 1 || eqb y 1)
    larger x y hx hy = grind (arith, nat_tests)

pub without_bit : (a b i : ℕ) → b < 2 ^ 64 → i < 64 → eqb (bit_at (bit_and a (bit_not w64 b)) i) 1 ≡ (eqb (bit_at a i) 1 && not (eqb (bit_at b i) 1))
without_bit a b i small less =
    ap (λ n. eqb n 1) (bit_at_and a (bit_not w64 b) i ∙ ap (min (bit_at a i)) (bit_at_not w64 b i small less)) ∙ smaller (bit_at a i) (bit_at b i) (bit_at-lt a i) (bit_at-lt b i)
  where
    smaller : (x y : ℕ) → x < 2 → y < 2 → eqb (min x (1 - y)) 1 ≡ (eqb x 1 && not (eqb y 1))
    smaller x y hx hy = grind (arith, nat_tests)
