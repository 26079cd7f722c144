-- Each value that a line gives an option is one that the option takes.
use Rattle.std.proofs.Common.{◌≡◌, ℕ, zero, suc, ◌<◌, ◌≤◌, true, false, List, [], ◌∷◌, length, map, get_or, Contains, Option, Some, None, Ok, refl, sym, ap, ◌∙◌, subst, arith}
use borrow.Author.Tests.{ltb-false}
use Rattle.sm_base.specs.declared.limits.TheConstants.{LAST_SECOND}
use Rattle.sm_model.specs.InRange.{IsPath, IsLabel, IsName, is_made_name}
use Rattle.sm_base.specs.Name.{is_part, is_label, is_snapshot_name}
use Rattle.sm_base.specs.declared.numbers.PolicyKind.{PolicyKind}
use Rattle.sm_base.specs.declared.numbers.PolicyKind.TheVariants.{AsyncMirror}
use Rattle.sm_grammar.specs.declared.table.Form.{Form}
use Rattle.sm_grammar.specs.declared.table.OptionName.{OptionName}
use Rattle.sm_grammar.specs.declared.table.OptionName.TheVariants.{Path, NewSnapshot, Snapshot, Label, Policy, PolicyType, RuleLabel, Time}
use Rattle.sm_grammar.specs.declared.table.Shape.TheVariants as shapes
use Rattle.sm_grammar.specs.declared.value.Value.{Value}
use Rattle.sm_grammar.specs.declared.value.Value.TheVariants as values
use Rattle.sm_grammar.specs.Table.{options_of, option_text, shape_of}
use Rattle.sm_grammar.specs.Options.{option_named, value_given}
use Rattle.sm_grammar.specs.Grammar.{is_below}
use Rattle.sm_grammar.specs.Tasks.{path, snapshot, number, time, part, label, policy_type, snapshot_if_any, label_if_any, number_or}
use Rattle.sm_grammar.specs.Spelling.{Spelled, SpellsValue, pair_of, AreSpelled}
use Rattle.sm_grammar.proofs.Taken.{ok_same}
use Rattle.sm_grammar.proofs.OptionSpelled.{named}
use Rattle.sm_grammar.proofs.OrderLemmas.{Stands, given_by}
use Rattle.sm_grammar.proofs.LastSecond.{time_bound}
use Rattle.sm_grammar.proofs.TimeSpelled.{time_read}

-- some word stands for the value behind this option
abbrev pub Takes : OptionName → Value → Type 0
Takes o v = (text : List ℕ) × SpellsValue (shape_of o) text v

-- each option of the command has a value that it takes, where it has one
abbrev pub AreTaken : Form → (OptionName → Option Value) → Type 0
AreTaken form given = (o : OptionName) (v : Value) → Contains (options_of form) o → given o ≡ Some v → Takes o v

-- two options of a command that have one word are one
one_option : (form : Form) (a b : OptionName) → Contains (options_of form) a → Contains (options_of form) b → option_text a ≡ option_text b → a ≡ b
one_option form a b first second same = ok_same a b (sym (named form a first) ∙ ap (option_named form) same ∙ named form b second)

spelled_in : (form : Form) (spelled : List Spelled) (t : Spelled) (k : ℕ) → k < length spelled → get_or spelled k t ≡ t → AreSpelled form spelled → Contains (options_of form) t.option × SpellsValue (shape_of t.option) t.text t.value
spelled_in form [] t k less here each = absurd (omega arith)
spelled_in form (s ∷ more) t zero less here each =
    subst (λ (u : Spelled). Contains (options_of form) u.option × SpellsValue (shape_of u.option) u.text u.value) here (each.0, each.1)
spelled_in form (s ∷ more) t (suc k) less here each = spelled_in form more t k (omega arith) here each.3

taken_by : (form : Form) (spelled : List Spelled) (o : OptionName) (v : Value) → AreSpelled form spelled → Contains (options_of form) o → Stands spelled o v → Takes o v
taken_by form spelled o v each known st =
    let c = spelled_in form spelled st.one st.among.0 st.among.1 st.among.2 each in
    let same : st.one.option ≡ o = one_option form st.one.option o c.0 known (sym st.same) in
    (st.one.text, subst (λ (p : OptionName). SpellsValue (shape_of p) st.one.text v) same (subst (λ (w : Value). SpellsValue (shape_of st.one.option) st.one.text w) st.value c.1))

-- what a line spells
pub values_taken : (form : Form) (spelled : List Spelled) → AreSpelled form spelled → AreTaken form (value_given (map pair_of spelled))
unfolding value_given
values_taken form spelled each o v known e = taken_by form spelled o v each known (given_by spelled o v e)

-- ---- the value that a getter gave

path_is : (o : Option Value) (p : List ℕ) → path o ≡ Ok p → o ≡ Some (values.Path p)
path_is (Some (values.Path text)) p e = ap (λ t. Some (values.Path t)) (ok_same text p e)
path_is _ p e = absurd (cc)

snapshot_is : (o : Option Value) (name : List ℕ) → snapshot o ≡ Ok name → o ≡ Some (values.Snapshot name)
snapshot_is (Some (values.Snapshot text)) name e = ap (λ t. Some (values.Snapshot t)) (ok_same text name e)
snapshot_is _ name e = absurd (cc)

pub number_is : (o : Option Value) (n : ℕ) → number o ≡ Ok n → o ≡ Some (values.Number n)
number_is (Some (values.Number m)) n e = ap (λ t. Some (values.Number t)) (ok_same m n e)
number_is _ n e = absurd (cc)

time_is : (o : Option Value) (t : ℕ) → time o ≡ Ok t → o ≡ Some (values.Time t)
time_is (Some (values.Time s)) t e = ap (λ u. Some (values.Time u)) (ok_same s t e)
time_is _ t e = absurd (cc)

part_is : (o : Option Value) (name : List ℕ) → part o ≡ Ok name → o ≡ Some (values.Part name)
part_is (Some (values.Part text)) name e = ap (λ t. Some (values.Part t)) (ok_same text name e)
part_is _ name e = absurd (cc)

label_is : (o : Option Value) (name : List ℕ) → label o ≡ Ok name → o ≡ Some (values.Label name)
label_is (Some (values.Label text)) name e = ap (λ t. Some (values.Label t)) (ok_same text name e)
label_is _ name e = absurd (cc)

policy_type_is : (o : Option Value) (kind : PolicyKind) → policy_type o ≡ Ok kind → o ≡ Some (values.PolicyType kind)
policy_type_is (Some (values.PolicyType k)) kind e = ap (λ t. Some (values.PolicyType t)) (ok_same k kind e)
policy_type_is _ kind e = absurd (cc)

-- ---- its range

path_in : (p text : List ℕ) → SpellsValue shapes.Path text (values.Path p) → IsPath p
path_in p text spells = let same : p ≡ text = let is = spells.1 in cc in rw same spells.0

-- the path behind any option that takes one
pub path_behind : (form : Form) (given : OptionName → Option Value) (o : OptionName) (p : List ℕ) → AreTaken form given → Contains (options_of form) o → shape_of o ≡ shapes.Path → path (given o) ≡ Ok p → IsPath p
path_behind form given o p taken known shape e =
    let s = taken o (values.Path p) known (path_is (given o) p e) in
    path_in p s.0 (subst (λ sh. SpellsValue sh s.0 (values.Path p)) shape s.1)

pub path_taken : (form : Form) (given : OptionName → Option Value) (p : List ℕ) → AreTaken form given → Contains (options_of form) Path → path (given Path) ≡ Ok p → IsPath p
unfolding shape_of
path_taken form given p taken known e = path_behind form given Path p taken known refl e

pub policy_taken : (form : Form) (given : OptionName → Option Value) (name : List ℕ) → AreTaken form given → Contains (options_of form) Policy → part (given Policy) ≡ Ok name → is_part name ≡ true
unfolding shape_of
policy_taken form given name taken known e =
    let s = taken Policy (values.Part name) known (part_is (given Policy) name e) in
    let same : name ≡ s.0 = let is = s.1.1 in cc in rw same s.1.0

pub rule_label_taken : (form : Form) (given : OptionName → Option Value) (name : List ℕ) → AreTaken form given → Contains (options_of form) RuleLabel → label (given RuleLabel) ≡ Ok name → is_label name ≡ true
unfolding shape_of
rule_label_taken form given name taken known e =
    let s = taken RuleLabel (values.Label name) known (label_is (given RuleLabel) name e) in
    let same : name ≡ s.0 = let is = s.1.1 in cc in rw same s.1.0

pub policy_type_taken : (form : Form) (given : OptionName → Option Value) (kind : PolicyKind) → AreTaken form given → Contains (options_of form) PolicyType → policy_type (given PolicyType) ≡ Ok kind → kind ≡ AsyncMirror
unfolding shape_of
policy_type_taken form given kind taken known e =
    let s = taken PolicyType (values.PolicyType kind) known (policy_type_is (given PolicyType) kind e) in
    let is = s.1.1 in cc

pub name_taken : (form : Form) (given : OptionName → Option Value) (name : List ℕ) → AreTaken form given → Contains (options_of form) Snapshot → snapshot (given Snapshot) ≡ Ok name → is_snapshot_name name ≡ true
unfolding shape_of
name_taken form given name taken known e =
    let s = taken Snapshot (values.Snapshot name) known (snapshot_is (given Snapshot) name e) in
    let same : name ≡ s.0 = let is = s.1.1 in cc in rw same s.1.0

pub new_name_taken : (form : Form) (given : OptionName → Option Value) (name : List ℕ) → AreTaken form given → Contains (options_of form) NewSnapshot → snapshot (given NewSnapshot) ≡ Ok name → (is_made_name name ≡ false) × (is_snapshot_name name ≡ true)
unfolding shape_of
new_name_taken form given name taken known e =
    let s = taken NewSnapshot (values.Snapshot name) known (snapshot_is (given NewSnapshot) name e) in
    let same : name ≡ s.0 = let is = s.1.2 in cc in rw same (s.1.0, s.1.1)

pub time_taken : (form : Form) (given : OptionName → Option Value) (t : ℕ) → AreTaken form given → Contains (options_of form) Time → time (given Time) ≡ Ok t → t ≤ LAST_SECOND
unfolding shape_of
time_taken form given t taken known e =
    let s = taken Time (values.Time t) known (time_is (given Time) t e) in
    let same : t ≡ s.1.0 = let is = s.1.2 in cc in rw same (time_bound s.0 s.1.0 (time_read s.0 s.1.0 s.1.1))

-- a number that is spelled lies in its range
number_in : (low high n : ℕ) (text : List ℕ) → SpellsValue (shapes.Number low high) text (values.Number n) → (low ≤ n) × (n ≤ high)
number_in low high n text (m, spells, bottom, top, is) = let same : n ≡ m = cc in rw same (bottom, top)

pub number_taken : (form : Form) (given : OptionName → Option Value) (o : OptionName) (low high n : ℕ) → AreTaken form given → Contains (options_of form) o → shape_of o ≡ shapes.Number low high → number (given o) ≡ Ok n → (low ≤ n) × (n ≤ high)
number_taken form given o low high n taken known shape e =
    let s = taken o (values.Number n) known (number_is (given o) n e) in
    number_in low high n s.0 (subst (λ sh. SpellsValue sh s.0 (values.Number n)) shape s.1)

number_or_in : (o : Option Value) (other low high : ℕ) → ((n : ℕ) → o ≡ Some (values.Number n) → n ≤ high) → other ≤ high → number_or other o ≤ high
number_or_in (Some (values.Number n)) other low high known fits = known n refl
number_or_in _ other low high known fits = fits

pub number_or_taken : (form : Form) (given : OptionName → Option Value) (o : OptionName) (other low high : ℕ) → AreTaken form given → Contains (options_of form) o → shape_of o ≡ shapes.Number low high → other ≤ high → number_or other (given o) ≤ high
number_or_taken form given o other low high taken known shape fits =
    number_or_in (given o) other low high (λ n e. (number_taken form given o low high n taken known shape (ap number e)).1) fits

label_in : (o : Option Value) (label : Option (List ℕ)) → ((v : Value) → o ≡ Some v → Takes Label v) → label_if_any o ≡ Ok label → IsLabel label
unfolding shape_of
label_in (Some (values.Label text)) label known e =
    let s = known (values.Label text) refl in
    let same : text ≡ s.0 = let is = s.1.1 in cc in
    rw (sym (ok_same (Some text) label e), same) s.1.0
label_in _ label known e = rw (sym (ok_same None label e)) tt

pub label_taken : (form : Form) (given : OptionName → Option Value) (label : Option (List ℕ)) → AreTaken form given → Contains (options_of form) Label → label_if_any (given Label) ≡ Ok label → IsLabel label
label_taken form given label taken known e = label_in (given Label) label (λ v. taken Label v known) e

name_in : (o : Option Value) (name : Option (List ℕ)) → ((v : Value) → o ≡ Some v → Takes Snapshot v) → snapshot_if_any o ≡ Ok name → IsName name
unfolding shape_of
name_in (Some (values.Snapshot text)) name known e =
    let s = known (values.Snapshot text) refl in
    let same : text ≡ s.0 = let is = s.1.1 in cc in
    rw (sym (ok_same (Some text) name e), same) s.1.0
name_in _ name known e = rw (sym (ok_same None name e)) tt

pub some_name_taken : (form : Form) (given : OptionName → Option Value) (name : Option (List ℕ)) → AreTaken form given → Contains (options_of form) Snapshot → snapshot_if_any (given Snapshot) ≡ Ok name → IsName name
some_name_taken form given name taken known e = name_in (given Snapshot) name (λ v. taken Snapshot v known) e

-- one number is not below the other
pub not_below : (o p : Option Value) (m n : ℕ) → o ≡ Some (values.Number m) → p ≡ Some (values.Number n) → is_below o p ≡ false → n ≤ m
not_below o p m n first second e = ltb-false m n (rw (first, second) at e)
