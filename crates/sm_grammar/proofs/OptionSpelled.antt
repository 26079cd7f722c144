-- Options that are spelled are read so.
use Rattle.std.proofs.Common.{◌≡◌, ℕ, zero, suc, ◌<◌, Bool, true, false, not, ◌&&◌, cond, List, [], ◌∷◌, ◌++◌, length, map, flat_map, find, get_or, Contains, Some, Ok, refl, sym, ap, ◌∙◌, arith, append_assoc, append-nil}
use Rattle.std.specs.List.{list_any}
use Rattle.std.specs.Str.{bytes_eq}
use Rattle.std.proofs.lemmas.Bool.{or_parts, or_from}
use Rattle.sm_grammar.proofs.ValueSpelled.{flag_spelled, value_given_so}
use Rattle.std.proofs.lemmas.Slice.Eq.{bytes_eq-Decides}
use Rattle.sm_grammar.specs.declared.given.Pair.{Pair}
use Rattle.sm_grammar.specs.declared.table.Form.{Form}
use Rattle.sm_grammar.specs.declared.table.OptionName.{OptionName}
use Rattle.sm_grammar.specs.Fault.{◌>>=◌}
use Rattle.sm_grammar.specs.Table.{options_of, option_text, shape_of}
use Rattle.sm_grammar.specs.Options.{Given, has_text, is_given, option_named, new_option, is_flag, read_option, options}
use Rattle.sm_grammar.specs.Spelling.{Spelled, SpellsValue, words_spelled, pair_of, AreSpelled}
use Rattle.sm_grammar.proofs.OptionLemmas.{options_step, read_on}
use Rattle.sm_grammar.proofs.TableLemmas.{all_differ, options_differ}

same_bytes : (text : List ℕ) → bytes_eq text text ≡ true
same_bytes text = (bytes_eq-Decides text text).1 refl

both : (t u : Bool) → (not t && u) ≡ true → (t ≡ false) × (u ≡ true)
both true u e = absurd (cc)
both false u e = (refl, e)

-- an option that stands later in the list has another word than the first
differs : (word : List ℕ) (options : List OptionName) (option : OptionName) (k : ℕ) → k < length options → get_or options k option ≡ option → list_any (bytes_eq word) (map option_text options) ≡ false → bytes_eq word (option_text option) ≡ false
differs word [] option k less here none = absurd (omega arith)
differs word (o ∷ os) option zero less here none = ap (λ p. bytes_eq word (option_text p)) (sym here) ∙ (or_parts _ _ none).0
differs word (o ∷ os) option (suc k) less here none = differs word os option k (omega arith) here (or_parts _ _ none).1

swapped : (xs ys : List ℕ) → bytes_eq xs ys ≡ false → bytes_eq ys xs ≡ false
swapped xs ys e = no_other (bytes_eq ys xs) refl
  where
    no_other : (t : Bool) → bytes_eq ys xs ≡ t → bytes_eq ys xs ≡ false
    no_other true h = absurd (let same = (bytes_eq-Decides ys xs).0 h in let back = (bytes_eq-Decides xs ys).1 (sym same) in cc)
    no_other false h = h

found : (options : List OptionName) (option : OptionName) (k : ℕ) → k < length options → get_or options k option ≡ option → all_differ (map option_text options) ≡ true → find (has_text (option_text option)) options ≡ Some option
found [] option k less here differ = absurd (omega arith)
found (o ∷ os) option zero less here differ =
    rw here (rw (same_bytes (option_text option)) refl)
found (o ∷ os) option (suc k) less here differ =
    let d = both _ _ differ in
    let other = swapped (option_text o) (option_text option) (differs (option_text o) os option k (omega arith) here d.0) in
    rw other (found os option k (omega arith) here d.1)

-- an option of the command is found by its word
pub named : (form : Form) (option : OptionName) → Contains (options_of form) option → option_named form (option_text option) ≡ Ok option
unfolding option_named
named form option among = rw (found (options_of form) option among.0 among.1 among.2 (options_differ form)) refl

-- none of the options that follow stood before
abbrev pub Fresh : Given → List Spelled → Type 0
Fresh given [] = Unit {0}
Fresh given (s ∷ more) = (is_given given s.option ≡ false) × Fresh given more

any_behind : (p : Pair → Bool) (pairs : List Pair) (pair : Pair) → list_any p pairs ≡ false → p pair ≡ false → list_any p (pairs ++ (pair ∷ [])) ≡ false
any_behind p [] pair none here = or_from _ _ here refl
any_behind p (q ∷ qs) pair none here = let n = or_parts (p q) (list_any p qs) none in or_from _ _ n.0 (any_behind p qs pair n.1 here)

fresh_behind : (given : Given) (s : Spelled) (more : List Spelled) → Fresh given more → list_any (λ t. has_text (option_text t.option) s.option) more ≡ false → Fresh (given ++ (pair_of s ∷ [])) more
unfolding is_given
fresh_behind given s [] fresh none = tt
fresh_behind given s (t ∷ more) fresh none =
    let n = or_parts (has_text (option_text t.option) s.option) (list_any (λ u. has_text (option_text u.option) s.option) more) none in
    (any_behind (λ p. has_text (option_text t.option) p.option) given (pair_of s) fresh.0 n.0, fresh_behind given s more fresh.1 n.1)

new_given : (form : Form) (option : OptionName) (given : Given) → Contains (options_of form) option → is_given given option ≡ false → new_option form (option_text option) given ≡ Ok option
unfolding new_option
new_given form option given among fresh = rw (named form option among, fresh) refl

-- one option that is spelled is read so
option_given : (form : Form) (s : Spelled) (given : Given) (words : List (List ℕ)) (flag : Bool) → is_flag (shape_of s.option) ≡ flag → Contains (options_of form) s.option → is_given given s.option ≡ false → SpellsValue (shape_of s.option) s.text s.value →
    options form (cond flag (option_text s.option ∷ []) (option_text s.option ∷ s.text ∷ []) ++ words) given ≡ options form words (given ++ (pair_of s ∷ []))
option_given form s given words true flag among fresh spells =
    let value = flag_spelled (shape_of s.option) s.text s.value flag spells in
    let read : read_option form (option_text s.option) words given ≡ Ok (pair_of s, words) = rw (new_given form s.option given among fresh, flag, value) refl in
    options_step form (option_text s.option) words given ∙ ap (λ r. r >>= read_on form given) read
option_given form s given words false flag among fresh spells =
    let value = value_given_so (shape_of s.option) s.text s.value flag spells in
    let read : read_option form (option_text s.option) (s.text ∷ words) given ≡ Ok (pair_of s, words) = rw (new_given form s.option given among fresh, flag, value) refl in
    options_step form (option_text s.option) (s.text ∷ words) given ∙ ap (λ r. r >>= read_on form given) read

-- options that are spelled are read so
pub options_given : (form : Form) (spelled : List Spelled) (given : Given) → AreSpelled form spelled → Fresh given spelled → options form (flat_map words_spelled spelled) given ≡ Ok (given ++ map pair_of spelled)
options_given form [] given spells fresh = ap Ok (sym (append-nil given))
options_given form (s ∷ more) given spells fresh =
    option_given form s given (flat_map words_spelled more) (is_flag (shape_of s.option)) refl spells.0 fresh.0 spells.1
    ∙ options_given form more (given ++ (pair_of s ∷ [])) spells.3 (fresh_behind given s more fresh.1 spells.2)
    ∙ ap Ok (append_assoc given (pair_of s ∷ []) (map pair_of more))

pub all_fresh : (spelled : List Spelled) → Fresh [] spelled
unfolding is_given
all_fresh [] = tt
all_fresh (s ∷ more) = (refl, all_fresh more)
