-- The values behind the options.
use Rattle.std.specs.Prelude.{ℕ, ◌&&◌, Bool, true, false, nat_le, if◌then◌else◌, List, Result, Ok, Err, ok_or, option_map, codes, nat_eq, bytes_eq}
use Rattle.std.specs.List.{starts_with}
use Rattle.sm_base.specs.Name.{is_part, is_path, is_label, is_snapshot_name}
use Rattle.sm_base.specs.declared.numbers.Kind.TheVariants.{Rw, Dp}
use Rattle.sm_base.specs.declared.numbers.PolicyKind.TheVariants.{AsyncMirror}
use Rattle.sm_grammar.specs.declared.fault.LineKind.{LineKind}
use Rattle.sm_grammar.specs.declared.fault.LineKind.TheVariants.{BadName, BadNumber, BadTime, BadChoice}
use Rattle.sm_grammar.specs.declared.table.Shape.{Shape}
use Rattle.sm_grammar.specs.declared.table.Shape.TheVariants as shapes
use Rattle.sm_grammar.specs.declared.value.Value.{Value}
use Rattle.sm_grammar.specs.declared.value.Value.TheVariants as values
use Rattle.sm_grammar.specs.Time.{time_of}
use Rattle.sm_grammar.specs.Number.{is_number, place_value}

-- some names are kept for transfers
abbrev pub is_reserved : List ℕ → Bool
is_reserved text = starts_with nat_eq text (codes "snapmirror.")

abbrev pub a_path : List ℕ → Result Value LineKind
a_path text = if is_path text then Ok (values.Path text) else Err BadName

abbrev pub a_label : List ℕ → Result Value LineKind
a_label text = if is_label text then Ok (values.Label text) else Err BadName

abbrev pub a_snapshot : List ℕ → Result Value LineKind
a_snapshot text = if is_snapshot_name text then Ok (values.Snapshot text) else Err BadName

abbrev pub a_new_snapshot : List ℕ → Result Value LineKind
a_new_snapshot text = if is_reserved text then Err BadName else a_snapshot text

abbrev pub a_number : ℕ → ℕ → List ℕ → Result Value LineKind
a_number low high text =
    if is_number text && nat_le low (place_value text) && nat_le (place_value text) high then Ok (values.Number (place_value text)) else Err BadNumber

-- one of two words
abbrev pub a_choice : List ℕ → Value → List ℕ → Value → List ℕ → Result Value LineKind
a_choice first x second y text = if bytes_eq text first then Ok x else (if bytes_eq text second then Ok y else Err BadChoice)

abbrev pub a_volume_type : List ℕ → Result Value LineKind
a_volume_type text = a_choice (codes "rw") (values.VolumeType Rw) (codes "dp") (values.VolumeType Dp) text

abbrev pub a_part : List ℕ → Result Value LineKind
a_part text = if is_part text then Ok (values.Part text) else Err BadName

-- a mirror's policy, and so far no other
abbrev pub a_policy_type : List ℕ → Result Value LineKind
a_policy_type text = if bytes_eq text (codes "async-mirror") then Ok (values.PolicyType AsyncMirror) else Err BadChoice

abbrev pub a_truth : List ℕ → Result Value LineKind
a_truth text = a_choice (codes "true") (values.Truth true) (codes "false") (values.Truth false) text

-- a time of the years 1970 to 9999
abbrev pub a_time : List ℕ → Result Value LineKind
a_time text = ok_or (option_map (λ t. values.Time t) (time_of text)) BadTime

-- what a word stands for behind an option; a flag is read from no word
unfoldable pub value_of : Shape → List ℕ → Result Value LineKind
value_of shapes.Flag text = Ok values.Flag
value_of shapes.Path text = a_path text
value_of shapes.Label text = a_label text
value_of shapes.Snapshot text = a_snapshot text
value_of shapes.NewSnapshot text = a_new_snapshot text
value_of (shapes.Number low high) text = a_number low high text
value_of shapes.Time text = a_time text
value_of shapes.VolumeType text = a_volume_type text
value_of shapes.Part text = a_part text
value_of shapes.PolicyType text = a_policy_type text
value_of shapes.Truth text = a_truth text
