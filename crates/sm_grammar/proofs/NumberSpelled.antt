-- Digits that spell a number, as a test and by their parts.
use Rattle.std.proofs.Common.{◌≡◌, ℕ, ◌≤◌, ◌&&◌, true, List, length, nat_le, nat_lt, refl}
use Rattle.std.proofs.lemmas.Bool.{and_parts, and_from}
use borrow.Author.Tests.{lt-ltb, le-leb, ltb-true, leb-true}
use Rattle.sm_grammar.specs.Number.{all_digits, is_number, place_value}
use Rattle.sm_grammar.specs.TimeSpelling.{SpellsNumber}

pub good_number : (text : List ℕ) (n : ℕ) → SpellsNumber text n → is_number text ≡ true
good_number text n s =
    let small : place_value text ≤ 4294967295 = rw (← s.value) at s.small in
    and_from _ _ (and_from _ _ (and_from _ _ (lt-ltb 0 (length text) s.some) (le-leb (length text) 10 s.few)) s.digits) (le-leb (place_value text) 4294967295 small)

pub number_parts : (text : List ℕ) → is_number text ≡ true → SpellsNumber text (place_value text)
number_parts text good =
    let small = and_parts (nat_lt 0 (length text) && nat_le (length text) 10 && all_digits text) (nat_le (place_value text) 4294967295) good in
    let digits = and_parts (nat_lt 0 (length text) && nat_le (length text) 10) (all_digits text) small.0 in
    let few = and_parts (nat_lt 0 (length text)) (nat_le (length text) 10) digits.0 in
    record {
      some = ltb-true 0 (length text) few.0;
      few = leb-true (length text) 10 few.1;
      digits = digits.1;
      value = refl;
      small = leb-true (place_value text) 4294967295 small.1;
    }
