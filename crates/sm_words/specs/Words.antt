-- What the words of the program's line give.
use Rattle.std.specs.Prelude.{ℕ, Bool, true, false, if◌then◌else◌, List, [], ◌∷◌, Option, Some, None, option_map, option_and_then, codes}
use Rattle.std.specs.Str.{bytes_eq}
use Rattle.std.specs.Str.Parse.{digits_value, without_leading_plus}
use Rattle.clap.specs.ValueTests.{is_unsigned_in}
use Rattle.clap.specs.Words.{Kinds, Row, Text, fault_of, first_of, matches_of, one_of}
use Rattle.sm_words.specs.Command.{lab_command}
use Rattle.sm_words.specs.declared.options.Mode.{Mode}
use Rattle.sm_words.specs.declared.options.Mode.TheVariants as modes
use Rattle.sm_words.specs.declared.options.Options.{Options}

-- the modes by their names
abbrev pub mode_named : Text → Option Mode
mode_named name =
    if bytes_eq name (codes "run") then Some modes.Run
    else if bytes_eq name (codes "report") then Some modes.Report else None

-- the number up to `most` that a text spells in decimal digits, behind a plus or none, and 0 where
-- it spells none
abbrev pub number_in : ℕ → Text → ℕ
number_in most text =
    if is_unsigned_in 0 most text then digits_value 10 (without_leading_plus text) else 0

abbrev pub number_of : ℕ → Option Text → ℕ
number_of most None = 0
number_of most (Some text) = number_in most text

abbrev pub flag_of : Option Text → Bool
flag_of None = false
flag_of (Some text) = bytes_eq text (codes "true")

-- what the rows of the command's arguments give
abbrev pub options_from : List Row → Option Options
options_from rows = option_map (λ mode. record {
  mode = mode;
  workers = number_of 4294967295 (one_of (codes "workers") rows);
  number = number_of 18446744073709551615 (one_of (codes "number") rows);
  history = flag_of (one_of (codes "history") rows);
}) (option_and_then mode_named (first_of (codes "mode") rows))

abbrev pub is_free_of_fault : Kinds → Bool
is_free_of_fault [] = true
is_free_of_fault (kind ∷ kinds) = false

-- the words, the program's name first, are a line that `clap` takes for this command
unfoldable pub is_line : List Text → Bool
is_line words = is_free_of_fault (fault_of lab_command words)

-- what the words give, and none where they are no line of the command
unfoldable pub options_of : List Text → Option Options
options_of words = if is_line words then options_from (matches_of lab_command words) else None
