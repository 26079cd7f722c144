-- Where numbers stand in the maps that were read so far.
use Rattle.std.specs.Prelude.{ℕ, suc, ◌==◌, ◌&&◌, ◌||◌, nat_le, Bool, true, if◌then◌else◌, List, [], ◌∷◌, Option, None, Some}

-- a number, and the place where it stands
pub record Spot : Type 0 where
  pub number : ℕ
  pub place : ℕ

abbrev pub place_of : List Spot → ℕ → Option ℕ
place_of [] number = None
place_of (s ∷ seen) number = if s.number == number then Some s.place else place_of seen number

-- a hole stands anywhere, and takes no spot
abbrev pub with_spot : List Spot → ℕ → ℕ → List Spot
with_spot seen place number = if number == 0 then seen else record { number = number; place = place } ∷ seen

-- and all numbers of a map, from this place on
abbrev pub with_map : List Spot → ℕ → List ℕ → List Spot
with_map seen place [] = seen
with_map seen place (n ∷ ns) = with_map (with_spot seen place n) (suc place) ns

abbrev pub with_maps : List Spot → List (List ℕ) → List Spot
with_maps seen [] = seen
with_maps seen (m ∷ ms) = with_maps (with_map seen 0 m) ms

abbrev pub is_place : Option ℕ → ℕ → Bool
is_place None place = true
is_place (Some p) place = p == place

-- a hole; or a number that is not above the greatest, and stood nowhere so far or at this very place
abbrev pub may_stand : ℕ → List Spot → ℕ → ℕ → Bool
may_stand most seen place number = (number == 0) || (nat_le number most && is_place (place_of seen number) place)
