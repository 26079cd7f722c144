-- The search for the command, command by command.
use Rattle.std.proofs.Common.{◌≡◌, ℕ, zero, suc, ◌+◌, ◌<◌, ◌≤◌, List, [], ◌∷◌, length, drop, get_or, Some, None, refl, arith, add-one}
use Rattle.std.proofs.Math.Seq.{drop-cons}
use Rattle.std.specs.Option.{option_map, option_or}
use Rattle.sm_grammar.specs.declared.table.Form.{Form}
use Rattle.sm_grammar.specs.Table.{form_text}
use Rattle.sm_grammar.specs.Words.{words_of}
use Rattle.sm_grammar.specs.Forms.{behind, form_among}

form_step : (forms : List Form) (i : ℕ) (d : Form) (words : List (List ℕ)) → i < length forms →
    form_among (drop i forms) words ≡ option_or (option_map (λ rest. (get_or forms i d, rest)) (behind (words_of (form_text (get_or forms i d))) words)) (form_among (drop (i + 1) forms) words)
form_step forms i d words less = rw (add-one, drop-cons forms i d) refl

pub form_found : (forms : List Form) (i : ℕ) (d : Form) (words rest : List (List ℕ)) → i < length forms → behind (words_of (form_text (get_or forms i d))) words ≡ Some rest →
    form_among (drop i forms) words ≡ Some (get_or forms i d, rest)
form_found forms i d words rest less e = rw (form_step forms i d words less, e) refl

pub form_passed : (forms : List Form) (i : ℕ) (d : Form) (words : List (List ℕ)) → i < length forms → behind (words_of (form_text (get_or forms i d))) words ≡ None →
    form_among (drop i forms) words ≡ form_among (drop (i + 1) forms) words
form_passed forms i d words less e = rw (form_step forms i d words less, e) refl

pub no_form : (i : ℕ) (forms : List Form) (words : List (List ℕ)) → length forms ≤ i → form_among (drop i forms) words ≡ None
no_form zero [] words end = refl
no_form (suc i) [] words end = refl
no_form zero (form ∷ forms) words end = absurd (omega arith)
no_form (suc i) (form ∷ forms) words end = no_form i forms words (omega arith)
