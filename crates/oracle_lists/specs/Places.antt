-- Where a number goes in an ascending list.
use Rattle.std.specs.Prelude.{ℕ, suc, cond, nat_lt, ◌==◌, ◌&&◌, Bool, List, [], ◌∷◌, length, slice_index}

-- how many numbers at the front are less
abbrev pub place_of : ℕ → List ℕ → ℕ
place_of t [] = 0
place_of t (u ∷ us) = cond (nat_lt u t) (suc (place_of t us)) 0

-- the number stands at the place
abbrev pub is_at : ℕ → List ℕ → ℕ → Bool
is_at t us p = nat_lt p (length us) && (slice_index us p == t)
