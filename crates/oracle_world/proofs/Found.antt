-- What a search finds, and what stands at a place.
use Rattle.std.proofs.Common.{◌≡◌, ℕ, zero, suc, ◌<◌, ◌≤◌, Bool, List, [], ◌∷◌, length, get_or, position, refl, sym, arith, Option, Some, None}
use Rattle.sm_defs.proofs.Searches.{found_by_position, none_by_position}
use Rattle.oracle_world.specs.Finding.{IsFound}

-- a position is the place of the first that passes
pub is_found : {X : Type 0} (p : X → Bool) (xs : List X) (d : X) (o : Option ℕ) → o ≡ position p xs → IsFound p xs d o
is_found p xs d None e = none_by_position p xs (sym e)
is_found p xs d (Some k) e = found_by_position p xs k d (sym e)

-- an element that stands is the same whatever stands elsewhere
pub there : {X : Type 0} (xs : List X) (k : ℕ) (d e : X) → k < length xs → get_or xs k d ≡ get_or xs k e
there [] k d e h = absurd (omega arith)
there (x ∷ xs) zero d e h = refl
there (x ∷ xs) (suc k) d e h = there xs k d e (omega arith)

-- past the last nothing stands
pub past_all : {X : Type 0} (xs : List X) (k : ℕ) (d : X) → length xs ≤ k → get_or xs k d ≡ d
past_all [] k d h = refl
past_all (x ∷ xs) zero d h = absurd (omega arith)
past_all (x ∷ xs) (suc k) d h = past_all xs k d (omega arith)
