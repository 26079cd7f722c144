-- The free numbers of a volume's blocks, as marks: true at each number that is free. Number 0 is the hole and never free.
use Rattle.std.specs.Prelude.{◌≡◌, ℕ, ◌<◌, ◌^◌, not, Bool, false, List, [], ◌∷◌, length, map, replicate}
use Rattle.sm_bits.specs.Places.{has, size}

-- the numbers that are not used, but 0
abbrev pub free_of : List Bool → List Bool
free_of [] = []
free_of (hole ∷ numbers) = false ∷ map (λ used. not used) numbers

-- What is kept beside the free numbers: all numbers, how many are free, and a number below which none is free.
pub record AreFreeNumbers (free all : List Bool) (least count : ℕ) : Type 0 where
  pub some : 0 < length free
  pub short : length free < 2 ^ 32
  pub hole : has free 0 ≡ false
  pub whole : all ≡ free_of (replicate (length free) false)
  pub none_below : (number : ℕ) → number < least → has free number ≡ false
  pub counted : count ≡ size free
