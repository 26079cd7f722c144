-- A set of places below a length, as the list of its marks: true at each place that is in the set.
use Rattle.std.specs.Prelude.{◌≡◌, ℕ, ◌<◌, ◌≤◌, ◌&&◌, ◌||◌, not, Bool, true, false, List, Option, MatchOption, slice_index_or, count_by}
use Rattle.std.specs.Simd.Lanes.{zip2}

-- the place is in the set
abbrev pub has : List Bool → ℕ → Bool
has set place = slice_index_or set place false

-- how many places are in the set
abbrev pub size : List Bool → ℕ
size set = count_by (λ mark. mark) set

-- the places that are in one of the two
abbrev pub union_of : List Bool → List Bool → List Bool
union_of xs ys = zip2 (λ x y. x || y) xs ys

-- the places that are in the first and not in the second
abbrev pub difference_of : List Bool → List Bool → List Bool
difference_of xs ys = zip2 (λ x y. x && not y) xs ys

-- no place from that one on is in the set
abbrev pub HasNoneFrom : List Bool → ℕ → Type 0
HasNoneFrom set from = (place : ℕ) → from ≤ place → has set place ≡ false

-- the least place from that one on that is in the set
pub record IsLeastFrom (set : List Bool) (from place : ℕ) : Type 0 where
  pub from_on : from ≤ place
  pub is_in : has set place ≡ true
  pub least : (other : ℕ) → from ≤ other → other < place → has set other ≡ false

-- the answer of a search from that place on
abbrev pub IsNextFrom : List Bool → ℕ → Option ℕ → Type 0
IsNextFrom set from found = MatchOption found (HasNoneFrom set from) (IsLeastFrom set from)
