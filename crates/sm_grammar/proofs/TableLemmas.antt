-- What the table has to keep: no two options of a command have one word, and no command's words begin another's.
use Rattle.std.proofs.Common.{◌≡◌, ℕ, Bool, true, not, ◌&&◌, List, [], ◌∷◌, ◌++◌, map, Some, refl}
use Rattle.std.specs.List.{list_any}
use Rattle.std.specs.Str.{bytes_eq}
use Rattle.sm_grammar.specs.declared.table.Form.{Form}
use Rattle.sm_grammar.specs.declared.table.Form.TheVariants as forms
use Rattle.sm_grammar.specs.Words.{words_of}
use Rattle.sm_grammar.specs.Table.{all_forms, form_text, options_of, option_text}
use Rattle.sm_grammar.specs.Forms.{form_of}

abbrev pub all_differ : List (List ℕ) → Bool
all_differ [] = true
all_differ (word ∷ words) = not (list_any (bytes_eq word) words) && all_differ words

pub options_differ : (form : Form) → all_differ (map option_text (options_of form)) ≡ true
unfolding options_of option_text
options_differ forms.VolumeCreate = refl
options_differ _ = refl

pub form_read : (form : Form) (rest : List (List ℕ)) → form_of (words_of (form_text form) ++ rest) ≡ Some (form, rest)
unfolding form_of all_forms form_text words_of
form_read forms.VolumeCreate rest = refl
form_read _ rest = refl
