-- Options that were read are spelled by their words.
use Rattle.std.proofs.Common.{◌≡◌, ℕ, suc, Bool, true, false, cond, List, [], ◌∷◌, ◌++◌, map, flat_map, find, Contains, Some, Ok, Err, ok_or, refl, sym, ap, ◌∙◌, arith, append_assoc, append-nil}
use Rattle.std.specs.List.{list_any}
use Rattle.std.specs.Str.{bytes_eq}
use Rattle.std.proofs.lemmas.Bool.{or_parts, or_from}
use Rattle.std.proofs.lemmas.Slice.Eq.{bytes_eq-Decides}
use Rattle.sm_grammar.specs.declared.fault.LineKind.TheVariants.{UnknownOption, RepeatedOption, MissingValue}
use Rattle.sm_grammar.specs.declared.given.Pair.{Pair}
use Rattle.sm_grammar.specs.declared.table.Form.{Form}
use Rattle.sm_grammar.specs.declared.table.OptionName.{OptionName}
use Rattle.sm_grammar.specs.declared.table.Shape.{Shape}
use Rattle.sm_grammar.specs.declared.table.Shape.TheVariants as shapes
use Rattle.sm_grammar.specs.declared.value.Value.{Value}
use Rattle.sm_grammar.specs.declared.value.Value.TheVariants as values
use Rattle.sm_grammar.specs.Fault.{◌>>=◌}
use Rattle.sm_grammar.specs.Table.{options_of, option_text, shape_of}
use Rattle.sm_grammar.specs.Value.{value_of}
use Rattle.sm_grammar.specs.Options.{Given, has_text, is_given, option_named, new_option, is_flag, with_option, options}
use Rattle.sm_grammar.specs.Spelling.{Spelled, SpellsValue, words_spelled, pair_of, AreSpelled}
use Rattle.sm_grammar.proofs.Taken.{bind_taken, not_first, some_taken, Same, ok_same}
use Rattle.sm_grammar.proofs.ValueTaken.{value_taken}
use Rattle.sm_grammar.proofs.OptionSpelled.{Fresh}

found_is : (word : List ℕ) (o option : OptionName) (os : List OptionName) (t : Bool) → bytes_eq word (option_text o) ≡ t → cond t (Some o) (find (has_text word) os) ≡ Some option →
    ((find (has_text word) os ≡ Some option) → Contains os option × (word ≡ option_text option)) → Contains (o ∷ os) option × (word ≡ option_text option)
found_is word o option os true same e later =
    let is : o ≡ option = let some : Some o ≡ Some option = e in cc in
    ((0, omega arith, is), (bytes_eq-Decides word (option_text o)).0 same ∙ ap option_text is)
found_is word o option os false same e later =
    let l = later e in
    ((suc l.0.0, omega (arith, l.0.1), l.0.2), l.1)

found_among : (word : List ℕ) (os : List OptionName) (option : OptionName) → find (has_text word) os ≡ Some option → Contains os option × (word ≡ option_text option)
found_among word [] option e = absurd (cc)
found_among word (o ∷ os) option e = found_is word o option os (bytes_eq word (option_text o)) refl e (found_among word os option)

-- a new option is one of the command, has this word and did not stand before
pub record IsNew (form : Form) (word : List ℕ) (given : Given) (option : OptionName) : Type 0 where
  among : Contains (options_of form) option
  is_word : word ≡ option_text option
  fresh : is_given given option ≡ false

new_taken : (form : Form) (word : List ℕ) (given : Given) (option : OptionName) → new_option form word given ≡ Ok option → IsNew form word given option
unfolding new_option option_named
new_taken form word given option e =
    let b = bind_taken (ok_or (find (has_text word) (options_of form)) UnknownOption) (λ o. cond (is_given given o) (Err RepeatedOption) (Ok o)) option e in
    let c = not_first (is_given given b.0) RepeatedOption (Ok b.0) option b.2 in
    let same : b.0 ≡ option = ok_same b.0 option c.1 in
    let f = found_among word (options_of form) b.0 (some_taken (find (has_text word) (options_of form)) UnknownOption b.0 b.1) in
    record {
      among = rw (← same) f.0;
      is_word = f.1 ∙ ap option_text same;
      fresh = ap (is_given given) (sym same) ∙ c.0;
    }

any_front : (p : Pair → Bool) (pairs : List Pair) (pair : Pair) → list_any p (pairs ++ (pair ∷ [])) ≡ false → (list_any p pairs ≡ false) × (p pair ≡ false)
any_front p [] pair none = (refl, (or_parts (p pair) false none).0)
any_front p (q ∷ qs) pair none =
    let n = or_parts (p q) (list_any p (qs ++ (pair ∷ []))) none in let m = any_front p qs pair n.1 in (or_from _ _ n.0 m.0, m.1)

-- options that are new behind a pair are new without it, and have other words
fresh_parts : (given : Given) (s : Spelled) (more : List Spelled) → Fresh (given ++ (pair_of s ∷ [])) more → Fresh given more × (list_any (λ t. has_text (option_text t.option) s.option) more ≡ false)
unfolding is_given
fresh_parts given s [] fresh = (tt, refl)
fresh_parts given s (t ∷ more) fresh =
    let m = any_front (λ p. has_text (option_text t.option) p.option) given (pair_of s) fresh.0 in
    let l = fresh_parts given s more fresh.1 in
    ((m.0, l.0), or_from _ _ m.1 l.1)

-- these words spell options behind those that were given
pub record Taken (form : Form) (words : List (List ℕ)) (given more : Given) : Type 0 where
  pub spelled : List Spelled
  pub are : words ≡ flat_map words_spelled spelled
  pub pairs : more ≡ given ++ map pair_of spelled
  pub each : AreSpelled form spelled
  pub fresh : Fresh given spelled

spelled_words : (s : Spelled) (flag : Bool) → is_flag (shape_of s.option) ≡ flag → words_spelled s ≡ cond flag (option_text s.option ∷ []) (option_text s.option ∷ s.text ∷ [])
spelled_words s flag e = ap (λ t. cond t (option_text s.option ∷ []) (option_text s.option ∷ s.text ∷ [])) e

-- an option in front of those that were taken
onto : (form : Form) (word : List ℕ) (front rest : List (List ℕ)) (given more : Given) (s : Spelled) → IsNew form word given s.option → SpellsValue (shape_of s.option) s.text s.value → front ≡ words_spelled s →
    Taken form rest (given ++ (pair_of s ∷ [])) more → Taken form (front ++ rest) given more
onto form word front rest given more s new spells is taken =
    let f = fresh_parts given s taken.spelled taken.fresh in
    record {
      spelled = s ∷ taken.spelled;
      are = ap (λ w. w ++ rest) is ∙ ap (λ w. words_spelled s ++ w) taken.are;
      pairs = taken.pairs ∙ append_assoc given (pair_of s ∷ []) (map pair_of taken.spelled);
      each = (new.among, spells, f.1, taken.each);
      fresh = (new.fresh, f.0);
    }

none_taken : (form : Form) (given more : Given) → Same given more → Taken form [] given more
none_taken form given more e =
    let same : given ≡ more = ok_same given more e in
    record { spelled = []; are = refl; pairs = sym same ∙ sym (append-nil given); each = tt; fresh = tt }

flag_spells : (shape : Shape) (text : List ℕ) → is_flag shape ≡ true → SpellsValue shape text values.Flag
flag_spells shapes.Flag text flag = refl
flag_spells _ text flag = absurd (cc)

flag_onto : (form : Form) (word : List ℕ) (rest : List (List ℕ)) (given more : Given) (option : OptionName) → IsNew form word given option → is_flag (shape_of option) ≡ true → Taken form rest (with_option given option values.Flag) more → Taken form (word ∷ rest) given more
flag_onto form word rest given more option new flag taken =
    let s : Spelled = record { option = option; value = values.Flag; text = [] } in
    onto form word (word ∷ []) rest given more s new (flag_spells (shape_of option) [] flag) (ap (λ w. w ∷ []) new.is_word ∙ sym (spelled_words s true flag)) taken

value_onto : (form : Form) (word text : List ℕ) (rest : List (List ℕ)) (given more : Given) (option : OptionName) (value : Value) → IsNew form word given option → is_flag (shape_of option) ≡ false → value_of (shape_of option) text ≡ Ok value →
    Taken form rest (with_option given option value) more → Taken form (word ∷ text ∷ rest) given more
value_onto form word text rest given more option value new flag read taken =
    let s : Spelled = record { option = option; value = value; text = text } in
    onto form word (word ∷ text ∷ []) rest given more s new (value_taken (shape_of option) text value flag read) (ap (λ w. w ∷ text ∷ []) new.is_word ∙ sym (spelled_words s false flag)) taken

at_end : (form : Form) (word : List ℕ) (given more : Given) (option : OptionName) (t : Bool) → is_flag (shape_of option) ≡ t → IsNew form word given option → cond t (Ok (with_option given option values.Flag)) (Err MissingValue) ≡ Ok more → Taken form (word ∷ []) given more
at_end form word given more option true flag new e = flag_onto form word [] given more option new flag (none_taken form (with_option given option values.Flag) more e)
at_end form word given more option false flag new e = absurd (cc)

in_front : (form : Form) (word text : List ℕ) (words : List (List ℕ)) (given more : Given) (option : OptionName) (t : Bool) → is_flag (shape_of option) ≡ t → IsNew form word given option →
    ((between : Given) → options form (text ∷ words) between ≡ Ok more → Taken form (text ∷ words) between more) → ((between : Given) → options form words between ≡ Ok more → Taken form words between more) →
    cond t (options form (text ∷ words) (with_option given option values.Flag)) (value_of (shape_of option) text >>= λ value. options form words (with_option given option value)) ≡ Ok more → Taken form (word ∷ text ∷ words) given more
in_front form word text words given more option true flag new next after e = flag_onto form word (text ∷ words) given more option new flag (next (with_option given option values.Flag) e)
in_front form word text words given more option false flag new next after e =
    let b = bind_taken (value_of (shape_of option) text) (λ value. options form words (with_option given option value)) more e in
    value_onto form word text words given more option b.0 new flag b.1 (after (with_option given option b.0) b.2)

-- options that were read are spelled by their words
pub options_taken : (form : Form) (words : List (List ℕ)) (given more : Given) → options form words given ≡ Ok more → Taken form words given more
options_taken form [] given more e = none_taken form given more e
options_taken form (word ∷ []) given more e =
    let b = bind_taken (new_option form word given) (λ option. cond (is_flag (shape_of option)) (Ok (with_option given option values.Flag)) (Err MissingValue)) more e in
    at_end form word given more b.0 (is_flag (shape_of b.0)) refl (new_taken form word given b.0 b.1) b.2
options_taken form (word ∷ text ∷ words) given more e =
    let b = bind_taken (new_option form word given) (λ option. cond (is_flag (shape_of option)) (options form (text ∷ words) (with_option given option values.Flag)) (value_of (shape_of option) text >>= λ value. options form words (with_option given option value))) more e in
    in_front form word text words given more b.0 (is_flag (shape_of b.0)) refl (new_taken form word given b.0 b.1)
    (λ between h. options_taken form (text ∷ words) between more h) (λ between h. options_taken form words between more h) b.2
