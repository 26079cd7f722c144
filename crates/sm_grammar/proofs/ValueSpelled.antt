-- A word that stands for a value is read as that value.
use Rattle.std.proofs.Common.{◌≡◌, inl, inr, ℕ, ◌≤◌, ◌&&◌, true, false, cond, List, Ok, Err, nat_le, refl, ap, ◌∙◌}
use Rattle.std.proofs.lemmas.Bool.{and_from}
use borrow.Author.Tests.{le-leb}
use Rattle.sm_grammar.specs.declared.fault.LineKind.TheVariants.{BadNumber}
use Rattle.sm_grammar.specs.declared.table.Shape.{Shape}
use Rattle.sm_grammar.specs.declared.table.Shape.TheVariants as shapes
use Rattle.sm_grammar.specs.declared.value.Value.{Value}
use Rattle.sm_grammar.specs.declared.value.Value.TheVariants as values
use Rattle.sm_grammar.specs.Number.{is_number, place_value}
use Rattle.sm_grammar.specs.Options.{is_flag}
use Rattle.sm_grammar.specs.TimeSpelling.{SpellsNumber}
use Rattle.sm_grammar.specs.Spelling.{SpellsValue}
use Rattle.sm_grammar.specs.Value.{a_number, value_of}
use Rattle.sm_grammar.proofs.NumberSpelled.{good_number}
use Rattle.sm_grammar.proofs.TimeSpelled.{time_read}

pub flag_spelled : (shape : Shape) (text : List ℕ) (value : Value) → is_flag shape ≡ true → SpellsValue shape text value → value ≡ values.Flag
flag_spelled shapes.Flag text value flag spells = spells
flag_spelled _ text value flag spells = absurd (cc)

number_given : (low high : ℕ) (text : List ℕ) (n : ℕ) → SpellsNumber text n → low ≤ n → n ≤ high → a_number low high text ≡ Ok (values.Number n)
number_given low high text n s bottom top =
    let below : low ≤ place_value text = rw s.value bottom in
    let above : place_value text ≤ high = rw s.value top in
    let good : (is_number text && nat_le low (place_value text) && nat_le (place_value text) high) ≡ true = and_from _ _ (and_from _ _ (good_number text n s) (le-leb low (place_value text) below)) (le-leb (place_value text) high above) in
    ap (λ t. cond t (Ok (values.Number (place_value text))) (Err BadNumber)) good ∙ ap (λ m. Ok (values.Number m)) s.value

pub value_given_so : (shape : Shape) (text : List ℕ) (value : Value) → is_flag shape ≡ false → SpellsValue shape text value → value_of shape text ≡ Ok value
unfolding value_of
value_given_so shapes.Flag text value flag spells = absurd (cc)
value_given_so shapes.Path text value flag spells = rw (spells.1, spells.0) refl
value_given_so shapes.Label text value flag spells = rw (spells.1, spells.0) refl
value_given_so shapes.Snapshot text value flag spells = rw (spells.1, spells.0) refl
value_given_so shapes.NewSnapshot text value flag spells = rw (spells.2, spells.0, spells.1) refl
value_given_so (shapes.Number low high) text value flag (n, number, bottom, top, is) = rw is (number_given low high text n number bottom top)
value_given_so shapes.Time text value flag (t, spells, is) = rw (is, time_read text t spells) refl
value_given_so shapes.VolumeType text value flag (inl (text_is, is)) = rw (is, text_is) refl
value_given_so shapes.VolumeType text value flag (inr (text_is, is)) = rw (is, text_is) refl
value_given_so shapes.Part text value flag spells = rw (spells.1, spells.0) refl
value_given_so shapes.PolicyType text value flag spells = rw (spells.1, spells.0) refl
value_given_so shapes.Truth text value flag (inl (text_is, is)) = rw (is, text_is) refl
value_given_so shapes.Truth text value flag (inr (text_is, is)) = rw (is, text_is) refl
