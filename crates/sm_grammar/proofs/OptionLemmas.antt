-- The options of a line, option by option.
use Rattle.std.proofs.Common.{◌≡◌, ℕ, Bool, true, false, cond, List, [], ◌∷◌, ◌++◌, Option, Some, None, Result, Ok, Err, refl, ap, ◌∙◌, sym}
use Rattle.sm_grammar.specs.declared.fault.LineKind.{LineKind}
use Rattle.sm_grammar.specs.declared.fault.LineKind.TheVariants.{MissingValue}
use Rattle.sm_grammar.specs.declared.given.Pair.{Pair}
use Rattle.sm_grammar.specs.declared.table.Form.{Form}
use Rattle.sm_grammar.specs.declared.table.OptionName.{OptionName}
use Rattle.sm_grammar.specs.declared.value.Value.{Value}
use Rattle.sm_grammar.specs.declared.value.Value.TheVariants as values
use Rattle.sm_grammar.specs.Fault.{◌>>=◌}
use Rattle.sm_grammar.specs.Table.{shape_of}
use Rattle.sm_grammar.specs.Words.{first_of}
use Rattle.sm_grammar.specs.Value.{value_of}
use Rattle.sm_grammar.specs.Options.{Given, new_option, is_flag, with_option, read_behind, read_option, options}

-- the options behind the one that was read
abbrev pub read_on : Form → Given → (Pair × List (List ℕ)) → Result Given LineKind
read_on form given r = options form r.1 (given ++ (r.0 ∷ []))

abbrev paired : OptionName → List (List ℕ) → Value → Result (Pair × List (List ℕ)) LineKind
paired option words value = Ok (record { option = option; value = value }, words)

no_text : (form : Form) (given : Given) (option : OptionName) (flag : Bool) →
    cond flag (Ok (with_option given option values.Flag)) (Err MissingValue) ≡ (read_behind option [] flag >>= read_on form given)
no_text form given option true = refl
no_text form given option false = refl

value_passed : (form : Form) (given : Given) (option : OptionName) (words : List (List ℕ)) (value : Result Value LineKind) →
    (value >>= λ v. options form words (with_option given option v)) ≡ ((value >>= paired option words) >>= read_on form given)
value_passed form given option words (Ok v) = refl
value_passed form given option words (Err kind) = refl

some_text : (form : Form) (given : Given) (option : OptionName) (text : List ℕ) (words : List (List ℕ)) (flag : Bool) →
    cond flag (options form (text ∷ words) (with_option given option values.Flag)) (value_of (shape_of option) text >>= λ v. options form words (with_option given option v)) ≡
    (read_behind option (text ∷ words) flag >>= read_on form given)
some_text form given option text words true = refl
some_text form given option text words false = value_passed form given option words (value_of (shape_of option) text)

over_none : (form : Form) (given : Given) (o : Result OptionName LineKind) →
    (o >>= λ option. cond (is_flag (shape_of option)) (Ok (with_option given option values.Flag)) (Err MissingValue)) ≡
    ((o >>= λ option. read_behind option [] (is_flag (shape_of option))) >>= read_on form given)
over_none form given (Ok option) = no_text form given option (is_flag (shape_of option))
over_none form given (Err kind) = refl

over_some : (form : Form) (given : Given) (text : List ℕ) (words : List (List ℕ)) (o : Result OptionName LineKind) →
    (o >>= λ option. cond (is_flag (shape_of option)) (options form (text ∷ words) (with_option given option values.Flag)) (value_of (shape_of option) text >>= λ v. options form words (with_option given option v))) ≡
    ((o >>= λ option. read_behind option (text ∷ words) (is_flag (shape_of option))) >>= read_on form given)
over_some form given text words (Ok option) = some_text form given option text words (is_flag (shape_of option))
over_some form given text words (Err kind) = refl

-- the options of a line are the first one and those behind it
pub options_step : (form : Form) (word : List ℕ) (words : List (List ℕ)) (given : Given) →
    options form (word ∷ words) given ≡ (read_option form word words given >>= read_on form given)
options_step form word [] given = over_none form given (new_option form word given)
options_step form word (text ∷ words) given = over_some form given text words (new_option form word given)

abbrev joined : Option (List ℕ × List (List ℕ)) → List (List ℕ)
joined None = []
joined (Some f) = f.0 ∷ f.1

first_taken : (ws : List (List ℕ)) (word : List ℕ) (words : List (List ℕ)) → Some (word, words) ≡ first_of ws → ws ≡ word ∷ words
first_taken [] word words e = absurd (cc)
first_taken (w ∷ ws) word words e = sym (ap joined e)

-- one turn of the reading
pub next_option : (form : Form) (ws : List (List ℕ)) (word : List ℕ) (words rest : List (List ℕ)) (given more : Given) (pair : Pair) →
    Some (word, words) ≡ first_of ws → read_option form word words given ≡ Ok (pair, rest) → more ≡ given ++ (pair ∷ []) → options form rest more ≡ options form ws given
next_option form ws word words rest given more pair taken read pushed =
    let step : options form (word ∷ words) given ≡ options form rest (given ++ (pair ∷ [])) = options_step form word words given ∙ ap (λ r. r >>= read_on form given) read in
    ap (options form rest) pushed ∙ sym step ∙ ap (λ w. options form w given) (sym (first_taken ws word words taken))
