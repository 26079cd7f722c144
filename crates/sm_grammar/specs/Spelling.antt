-- How a line spells what it asks for: the grammar read the other way.
use Rattle.std.specs.Prelude.{◌≡◌, ◌⊎◌, ℕ, ◌≤◌, ◌++◌, true, false, if◌then◌else◌, List, [], ◌∷◌, length, map, flat_map, Contains, Ok, codes, nat_eq}
use Rattle.std.specs.List.{list_all, list_any, starts_with}
use Rattle.sm_base.specs.Name.{is_part, is_path, is_label, is_snapshot_name}
use Rattle.sm_base.specs.declared.numbers.Kind.TheVariants.{Rw, Dp}
use Rattle.sm_base.specs.declared.numbers.PolicyKind.TheVariants.{AsyncMirror}
use Rattle.sm_grammar.specs.declared.limits.TheConstants.{LONGEST_LINE}
use Rattle.sm_grammar.specs.declared.command.Task.{Task}
use Rattle.sm_grammar.specs.declared.given.Pair.{Pair}
use Rattle.sm_grammar.specs.declared.table.Form.{Form}
use Rattle.sm_grammar.specs.declared.table.OptionName.{OptionName}
use Rattle.sm_grammar.specs.declared.table.Shape.{Shape}
use Rattle.sm_grammar.specs.declared.table.Shape.TheVariants as shapes
use Rattle.sm_grammar.specs.declared.value.Value.{Value}
use Rattle.sm_grammar.specs.declared.value.Value.TheVariants as values
use Rattle.sm_grammar.specs.TimeSpelling.{SpellsNumber, SpellsTime}
use Rattle.sm_grammar.specs.Words.{words_of}
use Rattle.sm_grammar.specs.Table.{form_text, options_of, option_text, shape_of}
use Rattle.sm_grammar.specs.Options.{has_text, is_flag, value_given}
use Rattle.sm_grammar.specs.Grammar.{is_line_byte, too_few}
use Rattle.sm_grammar.specs.Tasks.{task_of}

-- the first word and its value, or the second and its value
abbrev pub IsChoice : List ℕ → Value → List ℕ → Value → List ℕ → Value → Type 0
IsChoice first x second y text value = ((text ≡ first) × (value ≡ x)) ⊎ ((text ≡ second) × (value ≡ y))

-- a word stands for a value; a flag has no word
abbrev pub SpellsValue : Shape → List ℕ → Value → Type 0
SpellsValue shapes.Flag text value = value ≡ values.Flag
SpellsValue shapes.Path text value = (is_path text ≡ true) × (value ≡ values.Path text)
SpellsValue shapes.Label text value = (is_label text ≡ true) × (value ≡ values.Label text)
SpellsValue shapes.Snapshot text value = (is_snapshot_name text ≡ true) × (value ≡ values.Snapshot text)
SpellsValue shapes.NewSnapshot text value = (starts_with nat_eq text (codes "snapmirror.") ≡ false) × (is_snapshot_name text ≡ true) × (value ≡ values.Snapshot text)
SpellsValue (shapes.Number low high) text value = (n : ℕ) × SpellsNumber text n × (low ≤ n) × (n ≤ high) × (value ≡ values.Number n)
SpellsValue shapes.Time text value = (t : ℕ) × SpellsTime text t × (value ≡ values.Time t)
SpellsValue shapes.VolumeType text value = IsChoice (codes "rw") (values.VolumeType Rw) (codes "dp") (values.VolumeType Dp) text value
SpellsValue shapes.Part text value = (is_part text ≡ true) × (value ≡ values.Part text)
SpellsValue shapes.PolicyType text value = (text ≡ codes "async-mirror") × (value ≡ values.PolicyType AsyncMirror)
SpellsValue shapes.Truth text value = IsChoice (codes "true") (values.Truth true) (codes "false") (values.Truth false) text value

-- an option of a line, its value and the word that stands for it
pub record Spelled : Type 0 where
  pub option : OptionName
  pub value : Value
  pub text : List ℕ

abbrev pub words_spelled : Spelled → List (List ℕ)
words_spelled s = if is_flag (shape_of s.option) then option_text s.option ∷ [] else option_text s.option ∷ s.text ∷ []

abbrev pub pair_of : Spelled → Pair
pair_of s = record { option = s.option; value = s.value }

-- options of the command, each spelled and each at most once, in any order
abbrev pub AreSpelled : Form → List Spelled → Type 0
AreSpelled form [] = Unit {0}
AreSpelled form (s ∷ more) =
    Contains (options_of form) s.option × SpellsValue (shape_of s.option) s.text s.value × (list_any (λ t. has_text (option_text t.option) s.option) more ≡ false) × AreSpelled form more

-- a line has the words of a command and behind them its options, which ask for this
pub record SpellsTask (line : List ℕ) (task : Task) : Type 0 where
  pub form : Form
  pub spelled : List Spelled
  pub words : words_of line ≡ words_of (form_text form) ++ flat_map words_spelled spelled
  pub short : length line ≤ LONGEST_LINE
  pub bytes : list_all is_line_byte line ≡ true
  pub each : AreSpelled form spelled
  pub enough : too_few (map pair_of spelled) ≡ false
  pub asks : task_of form (value_given (map pair_of spelled)) ≡ Ok task
