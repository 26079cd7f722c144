-- A value that was read is spelled by its word.
use Rattle.std.proofs.Common.{◌≡◌, inl, inr, ℕ, ◌&&◌, Bool, true, false, cond, List, Option, Some, None, Ok, Err, ok_or, option_map, codes, nat_le, refl, sym}
use Rattle.std.proofs.lemmas.Bool.{and_parts}
use Rattle.std.specs.Str.{bytes_eq}
use Rattle.std.proofs.lemmas.Slice.Eq.{bytes_eq-Decides}
use borrow.Author.Tests.{leb-true}
use Rattle.sm_base.specs.Name.{is_part, is_path, is_label, is_snapshot_name}
use Rattle.sm_base.specs.declared.numbers.Kind.TheVariants.{Rw, Dp}
use Rattle.sm_base.specs.declared.numbers.PolicyKind.TheVariants.{AsyncMirror}
use Rattle.sm_grammar.specs.declared.fault.LineKind.TheVariants.{BadName, BadNumber, BadTime, BadChoice}
use Rattle.sm_grammar.specs.declared.table.Shape.{Shape}
use Rattle.sm_grammar.specs.declared.table.Shape.TheVariants as shapes
use Rattle.sm_grammar.specs.declared.value.Value.{Value}
use Rattle.sm_grammar.specs.declared.value.Value.TheVariants as values
use Rattle.sm_grammar.specs.Time.{time_of}
use Rattle.sm_grammar.specs.Number.{is_number, place_value}
use Rattle.sm_grammar.specs.Options.{is_flag}
use Rattle.sm_grammar.specs.Spelling.{IsChoice, SpellsValue}
use Rattle.sm_grammar.specs.Value.{a_number, a_snapshot, a_choice, is_reserved, value_of}
use Rattle.sm_grammar.proofs.NumberSpelled.{number_parts}
use Rattle.sm_grammar.proofs.TimeSpelled.{time_spelled}
use Rattle.sm_grammar.proofs.Taken.{not_first, not_second, Same, ok_same}

same : (x y : Value) → Same x y → y ≡ x
same x y e = sym (ok_same x y e)

number_taken : (low high : ℕ) (text : List ℕ) (value : Value) → a_number low high text ≡ Ok value → SpellsValue (shapes.Number low high) text value
number_taken low high text value e =
    let c = not_second (is_number text && nat_le low (place_value text) && nat_le (place_value text) high) BadNumber (Ok (values.Number (place_value text))) value e in
    let top = and_parts (is_number text && nat_le low (place_value text)) (nat_le (place_value text) high) c.0 in
    let bottom = and_parts (is_number text) (nat_le low (place_value text)) top.0 in
    (place_value text, number_parts text bottom.0, leb-true low (place_value text) bottom.1, leb-true (place_value text) high top.1, same (values.Number (place_value text)) value c.1)

chosen : (first second text : List ℕ) (x y value : Value) (t u : Bool) → (t ≡ true → text ≡ first) → (u ≡ true → text ≡ second) → cond t (Ok x) (cond u (Ok y) (Err BadChoice)) ≡ Ok value → IsChoice first x second y text value
chosen first second text x y value true u is_first is_second e = inl (is_first refl, same x value e)
chosen first second text x y value false true is_first is_second e = inr (is_second refl, same y value e)
chosen first second text x y value false false is_first is_second e = absurd (cc)

choice_taken : (first second text : List ℕ) (x y value : Value) → a_choice first x second y text ≡ Ok value → IsChoice first x second y text value
choice_taken first second text x y value e = chosen first second text x y value (bytes_eq text first) (bytes_eq text second) (bytes_eq-Decides text first).0 (bytes_eq-Decides text second).0 e

some_time : (o : Option ℕ) (value : Value) → ok_or (option_map (λ t. values.Time t) o) BadTime ≡ Ok value → (t : ℕ) × (o ≡ Some t) × (value ≡ values.Time t)
some_time None value e = absurd (cc)
some_time (Some t) value e = (t, refl, same (values.Time t) value e)

time_taken : (text : List ℕ) (value : Value) → ok_or (option_map (λ t. values.Time t) (time_of text)) BadTime ≡ Ok value → SpellsValue shapes.Time text value
time_taken text value e = let s = some_time (time_of text) value e in (s.0, time_spelled text s.0 s.1, s.2)

pub value_taken : (shape : Shape) (text : List ℕ) (value : Value) → is_flag shape ≡ false → value_of shape text ≡ Ok value → SpellsValue shape text value
unfolding value_of
value_taken shapes.Flag text value flag e = absurd (cc)
value_taken shapes.Path text value flag e = let c = not_second (is_path text) BadName (Ok (values.Path text)) value e in (c.0, same (values.Path text) value c.1)
value_taken shapes.Label text value flag e = let c = not_second (is_label text) BadName (Ok (values.Label text)) value e in (c.0, same (values.Label text) value c.1)
value_taken shapes.Snapshot text value flag e = let c = not_second (is_snapshot_name text) BadName (Ok (values.Snapshot text)) value e in (c.0, same (values.Snapshot text) value c.1)
value_taken shapes.NewSnapshot text value flag e =
    let n = not_first (is_reserved text) BadName (a_snapshot text) value e in
    let c = not_second (is_snapshot_name text) BadName (Ok (values.Snapshot text)) value n.1 in (n.0, c.0, same (values.Snapshot text) value c.1)
value_taken (shapes.Number low high) text value flag e = number_taken low high text value e
value_taken shapes.Time text value flag e = time_taken text value e
value_taken shapes.VolumeType text value flag e = choice_taken (codes "rw") (codes "dp") text (values.VolumeType Rw) (values.VolumeType Dp) value e
value_taken shapes.Part text value flag e = let c = not_second (is_part text) BadName (Ok (values.Part text)) value e in (c.0, same (values.Part text) value c.1)
value_taken shapes.PolicyType text value flag e =
    let c = not_second (bytes_eq text (codes "async-mirror")) BadChoice (Ok (values.PolicyType AsyncMirror)) value e in
    ((bytes_eq-Decides text (codes "async-mirror")).0 c.0, same (values.PolicyType AsyncMirror) value c.1)
value_taken shapes.Truth text value flag e = choice_taken (codes "true") (codes "false") text (values.Truth true) (values.Truth false) value e
