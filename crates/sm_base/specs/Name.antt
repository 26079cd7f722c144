-- The grammar of names.
use Rattle.std.specs.Prelude.{ℕ, ◌+◌, ◌==◌, ◌&&◌, ◌||◌, nat_le, nat_lt, Bool, false, List, length, take, drop, Option, None, Some, position}
use Rattle.std.specs.List.{list_all}

-- a letter, a digit or an underscore
abbrev pub name_byte : ℕ → Bool
name_byte b = (nat_le 65 b && nat_le b 90) || (nat_le 97 b && nat_le b 122) || (nat_le 48 b && nat_le b 57) || (b == 95)

-- the same, a hyphen or a dot
abbrev pub word_byte : ℕ → Bool
word_byte b = name_byte b || (b == 45) || (b == 46)

-- one to so many bytes, each of which passes
abbrev pub is_word : (ℕ → Bool) → ℕ → List ℕ → Bool
is_word passes most text = nat_lt 0 (length text) && nat_le (length text) most && list_all passes text

-- one to 64 letters, digits and underscores
abbrev pub is_part : List ℕ → Bool
is_part text = is_word name_byte 64 text

abbrev pub is_label : List ℕ → Bool
is_label text = is_word word_byte 31 text

abbrev pub is_snapshot_name : List ℕ → Bool
is_snapshot_name text = is_word word_byte 64 text

abbrev pub is_path_at : List ℕ → Option ℕ → Bool
is_path_at text None = false
is_path_at text (Some at) = is_part (take at text) && is_part (drop (at + 1) text)

-- a part, a colon, and a part
abbrev pub is_path : List ℕ → Bool
is_path text = is_path_at text (position (λ b. b == 58) text)
