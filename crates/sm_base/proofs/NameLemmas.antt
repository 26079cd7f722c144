-- Names are ASCII.
use Rattle.std.proofs.Common.{◌≡◌, ℕ, ◌+◌, ◌<◌, ◌==◌, ◌&&◌, ◌||◌, Bool, List, [], ◌∷◌, length, take, drop, get_or, true, false, Option, Some, None, position, refl, arith, add-one}
use Rattle.std.proofs.lemmas.Bool.Decides.{nat_tests}
use Rattle.std.proofs.lemmas.List.{take-append-drop}
use Rattle.std.proofs.Math.Seq.{drop-cons}
use Rattle.std.proofs.lemmas.List.Quantifiers.{position-Some}
use Rattle.std.proofs.lemmas.Str.{IsAscii-append}
use Rattle.std.proofs.lemmas.Str.Ascii.{IsAscii-nil, IsAscii-cons}
use Rattle.std.specs.List.{list_all}
use Rattle.std.specs.Str.{IsAscii}
use Rattle.sm_base.specs.Name.{name_byte, word_byte, is_part, is_label, is_snapshot_name, is_path, is_path_at}

name_byte_low : (b : ℕ) → name_byte b ≡ true → b < 128
name_byte_low b h = grind (arith, nat_tests)

either : (x y : Bool) (P : Type 0) → (x ≡ true → P) → (y ≡ true → P) → (x || y) ≡ true → P
either true y P f g h = f refl
either false y P f g h = g h

dash_low : (b : ℕ) → (b == 45) ≡ true → b < 128
dash_low b h = grind (arith, nat_tests)

dot_low : (b : ℕ) → (b == 46) ≡ true → b < 128
dot_low b h = grind (arith, nat_tests)

word_byte_low : (b : ℕ) → word_byte b ≡ true → b < 128
word_byte_low b h = either (name_byte b || (b == 45)) (b == 46) (b < 128) (either (name_byte b) (b == 45) (b < 128) (name_byte_low b) (dash_low b)) (dot_low b) h

both : (a b : _) → (a && b) ≡ true → (a ≡ true) × (b ≡ true)
both true b h = (refl, h)
both false b h = absurd (cc)

all_ascii : (passes : ℕ → Bool) → ((b : ℕ) → passes b ≡ true → b < 128) → (bs : List ℕ) → list_all passes bs ≡ true → IsAscii bs
all_ascii passes low [] h = IsAscii-nil
all_ascii passes low (b ∷ bs) h = let p = both _ _ h in IsAscii-cons b bs (low b p.0) (all_ascii passes low bs p.1)

pub part_is_ascii : (text : List ℕ) → is_part text ≡ true → IsAscii text
part_is_ascii text h = all_ascii name_byte name_byte_low text (both _ _ h).1

pub label_is_ascii : (text : List ℕ) → is_label text ≡ true → IsAscii text
label_is_ascii text h = all_ascii word_byte word_byte_low text (both _ _ h).1

pub snapshot_name_is_ascii : (text : List ℕ) → is_snapshot_name text ≡ true → IsAscii text
snapshot_name_is_ascii text h = all_ascii word_byte word_byte_low text (both _ _ h).1

at_ascii : (text : List ℕ) (at : Option ℕ) → position (λ b. b == 58) text ≡ at → is_path_at text at ≡ true → IsAscii text
at_ascii text None e h = absurd (cc)
at_ascii text (Some at) e h =
    let parts = both (is_part (take at text)) (is_part (drop (at + 1) text)) h in
    let found = position-Some (λ b. b == 58) text at 0 e in
    let colon : get_or text at 0 ≡ 58 = grind (arith, nat_tests) in
    let low : get_or text at 0 < 128 = omega arith in
    let within : at < length text = found.0 in
    let back : drop at text ≡ get_or text at 0 ∷ drop (at + 1) text = rw add-one (drop-cons text at 0 within) in
    let tail : IsAscii (drop at text) = rw back (IsAscii-cons _ _ low (part_is_ascii (drop (at + 1) text) parts.1)) in
    rw (take-append-drop at text) at (IsAscii-append (take at text) (drop at text) (part_is_ascii (take at text) parts.0) tail)

pub path_is_ascii : (text : List ℕ) → is_path text ≡ true → IsAscii text
path_is_ascii text h = at_ascii text _ refl h
