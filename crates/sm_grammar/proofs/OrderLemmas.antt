-- The order of the options does not matter.
use Rattle.std.proofs.Common.{◌≡◌, ◌↔◌, ℕ, zero, suc, ◌<◌, Bool, true, false, cond, List, [], ◌∷◌, length, map, find, get_or, Contains, Option, Some, None, Ok, option_map, refl, sym, ap, ◌∙◌, arith}
use Rattle.std.specs.List.{list_any}
use Rattle.std.specs.Str.{bytes_eq}
use Rattle.std.proofs.lemmas.Bool.{or_parts}
use Rattle.std.proofs.lemmas.Slice.Eq.{bytes_eq-Decides}
use Rattle.sm_grammar.specs.declared.command.Task.{Task}
use Rattle.sm_grammar.specs.declared.given.Pair.{Pair}
use Rattle.sm_grammar.specs.declared.table.Form.{Form}
use Rattle.sm_grammar.specs.declared.table.OptionName.{OptionName}
use Rattle.sm_grammar.specs.declared.table.OptionName.TheVariants.{Blocks, Physical}
use Rattle.sm_grammar.specs.declared.value.Value.{Value}
use Rattle.sm_grammar.specs.Table.{option_text}
use Rattle.sm_grammar.specs.Options.{has_text, value_given}
use Rattle.sm_grammar.specs.Grammar.{is_below, too_few, task_in}
use Rattle.sm_grammar.specs.Tasks.{task_of}
use Rattle.sm_grammar.specs.Spelling.{Spelled, pair_of, AreSpelled, SpellsTask}
use Rattle.sm_grammar.specs.Order.{IsReordered}
use Rattle.sm_grammar.proofs.TaskSpelled.{task_given}

abbrev value_in : List Spelled → OptionName → Option Value
value_in spelled o = option_map (λ p. p.value) (find (λ p. has_text (option_text o) p.option) (map pair_of spelled))

none_later : (s : Spelled) (more : List Spelled) (t : Spelled) (k : ℕ) → k < length more → get_or more k t ≡ t → list_any (λ u. has_text (option_text u.option) s.option) more ≡ false → bytes_eq (option_text t.option) (option_text s.option) ≡ false
none_later s [] t k less here none = absurd (omega arith)
none_later s (u ∷ more) t zero less here none = ap (λ v. bytes_eq (option_text v.option) (option_text s.option)) (sym here) ∙ (or_parts (has_text (option_text u.option) s.option) (list_any (λ v. has_text (option_text v.option) s.option) more) none).0
none_later s (u ∷ more) t (suc k) less here none = none_later s more t k (omega arith) here (or_parts (has_text (option_text u.option) s.option) (list_any (λ v. has_text (option_text v.option) s.option) more) none).1

-- an option that stands gives its value
stands : (form : Form) (spelled : List Spelled) (o : OptionName) (t : Spelled) (k : ℕ) → k < length spelled → get_or spelled k t ≡ t → AreSpelled form spelled → option_text o ≡ option_text t.option → value_in spelled o ≡ Some t.value
stands form [] o t k less here each same = absurd (omega arith)
stands form (s ∷ more) o t zero less here each same =
    let found : bytes_eq (option_text o) (option_text s.option) ≡ true = (bytes_eq-Decides (option_text o) (option_text s.option)).1 (same ∙ ap (λ v. option_text v.option) (sym here)) in
    rw found (ap (λ v. Some v.value) here)
stands form (s ∷ more) o t (suc k) less here each same =
    let other : bytes_eq (option_text o) (option_text s.option) ≡ false = ap (λ w. bytes_eq w (option_text s.option)) same ∙ none_later s more t k (omega arith) here each.2 in
    rw other (stands form more o t k (omega arith) here each.3 same)

-- a value was given by an option that stands
pub record Stands (spelled : List Spelled) (o : OptionName) (v : Value) : Type 0 where
  pub one : Spelled
  pub among : Contains spelled one
  pub same : option_text o ≡ option_text one.option
  pub value : one.value ≡ v

behind : (s : Spelled) (more : List Spelled) (o : OptionName) (v : Value) → Stands more o v → Stands (s ∷ more) o v
behind s more o v st = record { one = st.one; among = (suc st.among.0, omega (arith, st.among.1), st.among.2); same = st.same; value = st.value }

first_or_later : (s : Spelled) (more : List Spelled) (o : OptionName) (v : Value) (t : Bool) → bytes_eq (option_text o) (option_text s.option) ≡ t →
    option_map (λ p. p.value) (cond t (Some (pair_of s)) (find (λ p. has_text (option_text o) p.option) (map pair_of more))) ≡ Some v → (value_in more o ≡ Some v → Stands more o v) → Stands (s ∷ more) o v
first_or_later s more o v true found e later =
    let is : s.value ≡ v = cc in
    record { one = s; among = (0, omega arith, refl); same = (bytes_eq-Decides (option_text o) (option_text s.option)).0 found; value = is }
first_or_later s more o v false found e later = behind s more o v (later e)

pub given_by : (spelled : List Spelled) (o : OptionName) (v : Value) → value_in spelled o ≡ Some v → Stands spelled o v
given_by [] o v e = absurd (cc)
given_by (s ∷ more) o v e = first_or_later s more o v (bytes_eq (option_text o) (option_text s.option)) refl e (given_by more o v)

moved : (form : Form) (xs ys : List Spelled) (o : OptionName) (v : Value) → AreSpelled form ys → ((t : Spelled) → Contains xs t → Contains ys t) → value_in xs o ≡ Some v → value_in ys o ≡ Some v
moved form xs ys o v each within e =
    let st = given_by xs o v e in
    let c = within st.one st.among in
    stands form ys o st.one c.0 c.1 c.2 each st.same ∙ ap Some st.value

either_way : (a b : Option Value) → ((v : Value) → a ≡ Some v → b ≡ Some v) → ((v : Value) → b ≡ Some v → a ≡ Some v) → a ≡ b
either_way None None f g = refl
either_way None (Some v) f g = g v refl
either_way (Some v) b f g = sym (f v refl)

same_value : (form : Form) (xs ys : List Spelled) (o : OptionName) → AreSpelled form xs → AreSpelled form ys → ((t : Spelled) → Contains xs t ↔ Contains ys t) → value_given (map pair_of xs) o ≡ value_given (map pair_of ys) o
unfolding value_given
same_value form xs ys o each other same =
    either_way (value_in xs o) (value_in ys o) (λ v. moved form xs ys o v other (λ t. (same t).0)) (λ v. moved form ys xs o v each (λ t. (same t).1))

same_values : (form : Form) (xs ys : List Spelled) → AreSpelled form xs → AreSpelled form ys → ((t : Spelled) → Contains xs t ↔ Contains ys t) → value_given (map pair_of xs) ≡ value_given (map pair_of ys)
same_values form xs ys each other same = λ i o. same_value form xs ys o each other same i

abbrev few_in : (OptionName → Option Value) → Bool
few_in given = is_below (given Physical) (given Blocks)

still_enough : (xs ys : List Pair) → value_given xs ≡ value_given ys → too_few xs ≡ false → too_few ys ≡ false
unfolding too_few
still_enough xs ys same enough = ap few_in (sym same) ∙ enough

-- the same options in another order ask for the same
pub reordered : (line : List ℕ) (task : Task) (s : SpellsTask line task) (other : List ℕ) (spelled : List Spelled) → IsReordered line task s other spelled → task_in other ≡ Ok task
reordered line task s other spelled r =
    let same = same_values s.form s.spelled spelled s.each r.each r.same in
    task_given other task (record {
      form = s.form;
      spelled = spelled;
      words = r.words;
      short = r.short;
      bytes = r.bytes;
      each = r.each;
      enough = still_enough (map pair_of s.spelled) (map pair_of spelled) same s.enough;
      asks = ap (task_of s.form) (sym same) ∙ s.asks;
    })
