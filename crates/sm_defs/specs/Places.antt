-- Where numbers stand in maps of blocks.
use Rattle.std.specs.Prelude.{◌≡◌, ◌≢◌, ℕ, ◌<◌, List, length, slice_index}
use Rattle.sm_defs.specs.Words.{Among}

-- this number stands at this place of one of the maps
pub record StandsAt (maps : List (List ℕ)) (number place : ℕ) : Type 0 where
  pub in_map : List ℕ
  pub is_map : Among maps in_map
  pub in_range : place < length in_map
  pub here : slice_index in_map place ≡ number

-- a number but 0 stands at one place alone, in all the maps; so it stands once in each
abbrev pub OnePlace : List (List ℕ) → Type 0
OnePlace maps = (number p q : ℕ) → number ≢ 0 → StandsAt maps number p → StandsAt maps number q → p ≡ q
