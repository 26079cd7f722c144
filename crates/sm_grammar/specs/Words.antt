-- The words of a line.
use Rattle.std.specs.Prelude.{ℕ, ◌==◌, ◌||◌, Bool, nat_lt, List, [], ◌∷◌, length, Option, Some, None, filter}
use Rattle.std.specs.List.{slice_split}
use Rattle.sm_grammar.specs.declared.words.Words.{Words}

-- a space or a tab
abbrev pub is_blank : ℕ → Bool
is_blank b = (b == 32) || (b == 9)

abbrev pub is_word : List ℕ → Bool
is_word text = nat_lt 0 (length text)

-- each blank ends a word, and nothing between two blanks is none
unfoldable pub words_of : List ℕ → List (List ℕ)
words_of line = filter is_word (slice_split is_blank line)

-- the words that were not read yet
abbrev pub words_left : Words → List (List ℕ)
words_left w = words_of w.rest.now

-- the first word, and the words behind it
abbrev pub first_of : List (List ℕ) → Option (List ℕ × List (List ℕ))
first_of [] = None
first_of (first ∷ rest) = Some (first, rest)
