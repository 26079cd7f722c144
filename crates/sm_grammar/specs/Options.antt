-- The options of a line, one by one.
use Rattle.std.specs.Prelude.{ℕ, Bool, true, false, if◌then◌else◌, List, [], ◌∷◌, ◌++◌, Option, Result, Ok, Err, ok_or, option_map, find, bytes_eq}
use Rattle.std.specs.List.{list_any}
use Rattle.sm_grammar.specs.declared.fault.LineKind.{LineKind}
use Rattle.sm_grammar.specs.declared.fault.LineKind.TheVariants.{UnknownOption, RepeatedOption, MissingValue}
use Rattle.sm_grammar.specs.declared.given.Pair.{Pair}
use Rattle.sm_grammar.specs.declared.table.Form.{Form}
use Rattle.sm_grammar.specs.declared.table.OptionName.{OptionName}
use Rattle.sm_grammar.specs.declared.table.Shape.{Shape}
use Rattle.sm_grammar.specs.declared.table.Shape.TheVariants as shapes
use Rattle.sm_grammar.specs.declared.value.Value.{Value}
use Rattle.sm_grammar.specs.declared.value.Value.TheVariants as values
use Rattle.sm_grammar.specs.Fault.{◌>>=◌}
use Rattle.sm_grammar.specs.Table.{options_of, option_text, shape_of}
use Rattle.sm_grammar.specs.Value.{value_of}

-- the options that were read, in the order of the line
abbrev pub Given : Type 0
Given = List Pair

abbrev pub has_text : List ℕ → OptionName → Bool
has_text word option = bytes_eq word (option_text option)

-- the option of this word
unfoldable pub option_named : Form → List ℕ → Result OptionName LineKind
option_named form word = ok_or (find (has_text word) (options_of form)) UnknownOption

unfoldable pub is_given : Given → OptionName → Bool
is_given given option = list_any (λ p. has_text (option_text option) p.option) given

-- the value of an option, where it was read
unfoldable pub value_given : Given → OptionName → Option Value
value_given given option = option_map (λ p. p.value) (find (λ p. has_text (option_text option) p.option) given)

-- the option of this word, where it did not stand before
unfoldable pub new_option : Form → List ℕ → Given → Result OptionName LineKind
new_option form word given = do
  option ← option_named form word
  if is_given given option then Err RepeatedOption else Ok option

abbrev pub is_flag : Shape → Bool
is_flag shapes.Flag = true
is_flag _ = false

abbrev pub with_option : Given → OptionName → Value → Given
with_option given option value = given ++ (record { option = option; value = value } ∷ [])

-- the words are read from the front: an option, and behind it its value, but for a flag
abbrev pub options : Form → List (List ℕ) → Given → Result Given LineKind
options form [] given = Ok given
options form (word ∷ []) given = do
  option ← new_option form word given
  if is_flag (shape_of option) then Ok (with_option given option values.Flag) else Err MissingValue
options form (word ∷ text ∷ words) given = do
  option ← new_option form word given
  if is_flag (shape_of option)
      then options form (text ∷ words) (with_option given option values.Flag)
      else (value_of (shape_of option) text >>= λ value. options form words (with_option given option value))

-- the same of one option alone: what is read behind its word, and the words behind that
abbrev pub read_behind : OptionName → List (List ℕ) → Bool → Result (Pair × List (List ℕ)) LineKind
read_behind option words true = Ok (record { option = option; value = values.Flag }, words)
read_behind option [] false = Err MissingValue
read_behind option (text ∷ words) false = value_of (shape_of option) text >>= λ value. Ok (record { option = option; value = value }, words)

abbrev pub read_option : Form → List ℕ → List (List ℕ) → Given → Result (Pair × List (List ℕ)) LineKind
read_option form word words given = do
  option ← new_option form word given
  read_behind option words (is_flag (shape_of option))
