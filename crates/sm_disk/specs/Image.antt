-- The bytes of a disk, each at its place.
use Rattle.std.specs.Prelude.{◌≡◌, ◌⊎◌, ℕ, ◌+◌, ◌<◌, ◌≤◌, List, [], ◌∷◌}
use Rattle.std.proofs.Common.{zero, suc}

-- what stands at each place
abbrev pub Image : Type 0
Image = ℕ → ℕ

-- n bytes of an image from a place on
unfoldable pub part : Image → ℕ → ℕ → List ℕ
part c at zero = []
part c at (suc n) = c at ∷ part c (suc at) n

-- the two agree at each of these places
abbrev pub SameAt : (ℕ → Type 0) → Image → Image → Type 0
SameAt places c d = (place : ℕ) → places place → d place ≡ c place

-- a place that is not one of the n from a place on
abbrev pub IsOutside : ℕ → ℕ → ℕ → Type 0
IsOutside at n place = (place < at) ⊎ (at + n ≤ place)

-- a place that is one of the n from a place on
abbrev pub IsInside : ℕ → ℕ → ℕ → Type 0
IsInside at n place = (at ≤ place) × (place < at + n)

-- the two differ at most in n places from a place on
abbrev pub SameOutside : ℕ → ℕ → Image → Image → Type 0
SameOutside at n c d = (place : ℕ) → IsOutside at n place → d place ≡ c place

-- the two agree in n places from a place on
abbrev pub SameWithin : ℕ → ℕ → Image → Image → Type 0
SameWithin at n c d = (place : ℕ) → at ≤ place → place < at + n → d place ≡ c place

-- the two agree from a place on
abbrev pub SameFrom : ℕ → Image → Image → Type 0
SameFrom at c d = (place : ℕ) → at ≤ place → d place ≡ c place
