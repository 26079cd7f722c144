-- How words of 64 bits spell a set of places.
use Rattle.std.specs.Prelude.{◌≡◌, ℕ, ◌+◌, ◌*◌, ◌/◌, ◌%◌, ◌^◌, ◌<◌, ◌≤◌, ◌==◌, Bool, true, false, List, length, map, Option, MatchOption, slice_index}
use Rattle.std.specs.List.{range_with_len}
use Rattle.std.specs.Int.{bit_at}

-- the bit of a place: place 0 is the lowest bit of the first word
unfoldable pub bit : List ℕ → ℕ → Bool
bit words place = bit_at (slice_index words (place / 64)) (place % 64) == 1

-- the marks of the first places
unfoldable pub marks : ℕ → List ℕ → List Bool
marks places words = map (bit words) (range_with_len 0 places)

-- how many words a map has: whole rows of eight
abbrev pub words_for : ℕ → ℕ
words_for places = 8 * ((places + 511) / 512)

-- The words spell a set of so many places: there are just enough rows, and no bit is set past the last place.
pub record AreWordsOf (places : ℕ) (words : List ℕ) : Type 0 where
  pub short : places < 2 ^ 32
  pub rows : length words ≡ words_for places
  pub clear : (place : ℕ) → places ≤ place → bit words place ≡ false

-- the least place from that one on whose bit is set
pub record IsLeastBit (words : List ℕ) (from place : ℕ) : Type 0 where
  pub from_on : from ≤ place
  pub is_set : bit words place ≡ true
  pub least : (other : ℕ) → from ≤ other → other < place → bit words other ≡ false

abbrev pub IsNextBit : List ℕ → ℕ → Option ℕ → Type 0
IsNextBit words from found = MatchOption found ((place : ℕ) → from ≤ place → bit words place ≡ false) (IsLeastBit words from)

-- the first word from that one on with a bit set, or the length
pub record IsFirstFilled (words : List ℕ) (from at : ℕ) : Type 0 where
  pub from_on : from ≤ at
  pub within : at ≤ length words
  pub passed : (k : ℕ) → from ≤ k → k < at → slice_index words k ≡ 0
  pub filled : at < length words → 0 < slice_index words at
