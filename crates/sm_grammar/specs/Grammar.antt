-- What a line asks for.
use Rattle.std.specs.Prelude.{ℕ, ◌==◌, ◌&&◌, ◌||◌, Bool, false, not, nat_lt, nat_le, if◌then◌else◌, List, [], ◌∷◌, length, Option, Some, is_none, Result, Err, ok_or}
use Rattle.std.specs.List.{list_all}
use Rattle.sm_grammar.specs.declared.fault.LineKind.{LineKind}
use Rattle.sm_grammar.specs.declared.fault.LineKind.TheVariants.{TooLong, BadByte, UnknownCommand, BadNumber}
use Rattle.sm_grammar.specs.declared.limits.TheConstants.{LONGEST_LINE}
use Rattle.sm_grammar.specs.declared.command.Task.{Task}
use Rattle.sm_grammar.specs.declared.table.Form.{Form}
use Rattle.sm_grammar.specs.declared.table.OptionName.TheVariants.{Blocks, Physical}
use Rattle.sm_grammar.specs.declared.value.Value.{Value}
use Rattle.sm_grammar.specs.declared.value.Value.TheVariants as values
use Rattle.sm_grammar.specs.Fault.{◌>>=◌}
use Rattle.sm_grammar.specs.Words.{words_of, first_of}
use Rattle.sm_grammar.specs.Forms.{form_of}
use Rattle.sm_grammar.specs.Options.{Given, options, value_given}
use Rattle.sm_grammar.specs.Tasks.{task_of}

abbrev pub begins_with_hash : List ℕ → Bool
begins_with_hash [] = false
begins_with_hash (b ∷ bs) = b == 35

-- a line without a word, or a comment
unfoldable pub is_skipped : List ℕ → Bool
is_skipped line = is_none (first_of (words_of line)) || begins_with_hash line

-- a tab, or a printable byte
abbrev pub is_line_byte : ℕ → Bool
is_line_byte b = (b == 9) || (nat_le 32 b && nat_le b 126)

-- one number is below the other, where both stand
abbrev pub is_below : Option Value → Option Value → Bool
is_below (Some (values.Number m)) (Some (values.Number n)) = nat_lt m n
is_below _ _ = false

-- fewer physical blocks than logical ones
unfoldable pub too_few : Given → Bool
too_few given = is_below (value_given given Physical) (value_given given Blocks)

-- what a command asks for, by the words behind it
unfoldable pub task_behind : Form → List (List ℕ) → Result Task LineKind
task_behind form words = do
  given ← options form words []
  if too_few given then Err BadNumber else task_of form (value_given given)

-- what a line asks for that is not skipped
unfoldable pub task_in : List ℕ → Result Task LineKind
task_in line =
    if nat_lt LONGEST_LINE (length line) then Err TooLong
    else (if not (list_all is_line_byte line) then Err BadByte
    else (ok_or (form_of (words_of line)) UnknownCommand >>= λ f. task_behind f.0 f.1))
