-- Where numbers stand, as a map comes before the others.
use Rattle.std.proofs.Common.{ℕ, List, ◌∷◌, inr}
use Rattle.sm_defs.specs.Places.{StandsAt}

pub wider : (map : List ℕ) (maps : List (List ℕ)) (number place : ℕ) → StandsAt maps number place → StandsAt (map ∷ maps) number place
wider map maps number place a = record { in_map = a.in_map; is_map = inr a.is_map; in_range = a.in_range; here = a.here }
