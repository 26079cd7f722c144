-- What a table of numbers says of one of them.
use Rattle.std.specs.Prelude.{ℕ, ◌==◌, ◌&&◌, not, Bool, List, slice_index}

-- of an entry: its number stands somewhere
abbrev pub is_marked : ℕ → Bool
is_marked entry = not (entry == 0)

-- a block's number that stands nowhere
abbrev pub is_new : List ℕ → ℕ → Bool
is_new table n = not (n == 0) && (slice_index table n == 0)
