-- A path has one spelling: its two parts.
use Rattle.std.proofs.Common.{◌≡◌, ℕ, suc, ◌+◌, ◌<◌, ◌≤◌, ◌==◌, true, false, List, [], ◌∷◌, ◌++◌, length, take, drop, get_or, Option, Some, None, position, refl, sym, ap, ◌∙◌, arith, add-one}
use Rattle.std.specs.Prelude.{◌&&◌, nat_le, nat_lt}
use Rattle.std.specs.List.{list_all, position_from}
use Rattle.std.proofs.lemmas.Bool.{and_from, and_parts, leb-true}
use Rattle.std.proofs.lemmas.Bool.Decides.{nat_tests}
use Rattle.std.proofs.lemmas.Iterator.Adapters.{position_from-zero}
use Rattle.std.proofs.lemmas.List.{append-nil, take-append-drop}
use Rattle.std.proofs.lemmas.List.Quantifiers.{position-Some}
use Rattle.std.proofs.Math.Seq.{drop-cons, take-append_seam}
use Rattle.sm_base.specs.Name.{name_byte, is_part, is_path, is_path_at}
use Rattle.sm_fields.specs.Format.{bits32}
use Rattle.sm_fields.specs.Grammar.{digits, limit, with_length, Spells, IsSpelledBy}
use Rattle.sm_fields.proofs.Spelled.{number_spelled, such_that_spelled}
use Rattle.sm_catroot.specs.declared.placed.Placed.{Placed}
use Rattle.sm_catroot.specs.Layout.{joined, path, is_free_path, placed}
use Rattle.sm_catroot.specs.Spelling.{before_at, behind_at, colon, first_part, second_part, path_digits, placed_digits}

no_colon : (b : ℕ) → name_byte b ≡ true → (b == 58) ≡ false
no_colon b h = grind (arith, nat_tests)

colon_from : (i : ℕ) (a b : List ℕ) → list_all name_byte a ≡ true → position_from (λ b. b == 58) i (a ++ 58 ∷ b) ≡ Some (i + length a)
colon_from i [] b all =
    let place : i ≡ i + 0 = omega arith in
    ap (λ (n : ℕ). Some n) place
colon_from i (x ∷ a) b all =
    let parts = and_parts (name_byte x) (list_all name_byte a) all in
    let place : (i + 1) + length a ≡ i + suc (length a) = omega arith in
    rw (no_colon x parts.0) (colon_from (i + 1) a b parts.1 ∙ ap (λ (n : ℕ). Some n) place)

bytes_of_part : (a : List ℕ) → is_part a ≡ true → list_all name_byte a ≡ true
bytes_of_part a is = (and_parts (nat_lt 0 (length a) && nat_le (length a) 64) (list_all name_byte a) is).1

pub part_short : (a : List ℕ) → is_part a ≡ true → length a ≤ 64
part_short a is =
    let tests = and_parts (nat_lt 0 (length a) && nat_le (length a) 64) (list_all name_byte a) is in
    leb-true (length a) 64 (and_parts (nat_lt 0 (length a)) (nat_le (length a) 64) tests.0).1

at_start : (n : ℕ) → Some (0 + n) ≡ Some n
at_start n =
    let same : 0 + n ≡ n = omega arith in
    ap (λ (m : ℕ). Some m) same

colon_joined : (a b : List ℕ) → is_part a ≡ true → colon (joined a b) ≡ Some (length a)
colon_joined a b is = position_from-zero (λ b. b == 58) (joined a b) ∙ colon_from 0 a b (bytes_of_part a is) ∙ at_start (length a)

drop_over : (a b : List ℕ) → drop (suc (length a)) (a ++ 58 ∷ b) ≡ b
drop_over [] b = refl
drop_over (x ∷ a) b = drop_over a b

behind : (a b : List ℕ) → drop (length a + 1) (joined a b) ≡ b
behind a b =
    let next : length a + 1 ≡ suc (length a) = omega arith in
    ap (λ (n : ℕ). drop n (joined a b)) next ∙ drop_over a b

pub first_joined : (a b : List ℕ) → is_part a ≡ true → first_part (joined a b) ≡ a
first_joined a b is = ap (before_at (joined a b)) (colon_joined a b is) ∙ take-append_seam a (58 ∷ b)

pub second_joined : (a b : List ℕ) → is_part a ≡ true → second_part (joined a b) ≡ b
second_joined a b is = ap (behind_at (joined a b)) (colon_joined a b is) ∙ behind a b

pub joined_is_path : (a b : List ℕ) → is_part a ≡ true → is_part b ≡ true → is_path (joined a b) ≡ true
joined_is_path a b first second =
    let front : is_part (take (length a) (joined a b)) ≡ true = ap is_part (take-append_seam a (58 ∷ b)) ∙ first in
    let back : is_part (drop (length a + 1) (joined a b)) ≡ true = ap is_part (behind a b) ∙ second in
    ap (is_path_at (joined a b)) (colon_joined a b first) ∙ and_from (is_part (take (length a) (joined a b))) (is_part (drop (length a + 1) (joined a b))) front back

-- a path is its parts with a colon between them
pub record AreParts (p a b : List ℕ) : Type 0 where
  pub first : is_part a ≡ true
  pub second : is_part b ≡ true
  pub whole : p ≡ joined a b

parts_at : (p : List ℕ) (at : Option ℕ) → position (λ b. b == 58) p ≡ at → is_path_at p at ≡ true → AreParts p (before_at p at) (behind_at p at)
parts_at p None e is = absurd cc
parts_at p (Some at) e is =
    let parts = and_parts (is_part (take at p)) (is_part (drop (at + 1) p)) is in
    let found = position-Some (λ b. b == 58) p at 0 e in
    let here : get_or p at 0 ≡ 58 = (let h = found.1 in grind (arith, nat_tests)) in
    let back : drop at p ≡ get_or p at 0 ∷ drop (at + 1) p = rw add-one (drop-cons p at 0 found.0) in
    record {
      first = parts.0;
      second = parts.1;
      whole = sym (take-append-drop at p) ∙ ap (λ (x : List ℕ). take at p ++ x) (back ∙ ap (λ (x : ℕ). x ∷ drop (at + 1) p) here);
    }

pub parts_of : (p : List ℕ) → is_path p ≡ true → AreParts p (first_part p) (second_part p)
parts_of p is = parts_at p (colon p) refl is

path_only : (v bytes : List ℕ) → Spells path v bytes → (is_path v ≡ true) × (bytes ≡ path_digits v)
unfolding path path_digits
path_only v bytes s =
    let t = s.4 in
    let first = first_joined s.0 t.0 s.3.1 in
    let second = second_joined s.0 t.0 s.3.1 in
    let tail : s.2 ≡ with_length t.0 = t.5 ∙ rw (t.3.0.1, t.4.1) (append-nil (with_length t.0)) in
    let whole : bytes ≡ with_length s.0 ++ with_length t.0 = s.5 ∙ rw (s.3.0.1, tail) refl in
    let digits_same : with_length s.0 ++ with_length t.0 ≡ with_length (first_part (joined s.0 t.0)) ++ with_length (second_part (joined s.0 t.0)) = rw (first, second) refl in
    (ap is_path t.4.0 ∙ joined_is_path s.0 t.0 s.3.1 t.3.1, whole ∙ digits_same ∙ ap (λ (x : List ℕ). with_length (first_part x) ++ with_length (second_part x)) (sym t.4.0))

path_again : (v : List ℕ) → is_path v ≡ true → Spells path v (path_digits v)
unfolding path path_digits
path_again v is =
    let a = first_part v in
    let b = second_part v in
    let p = parts_of v is in
    (a, with_length a, with_length b, ((part_short a p.first, refl), p.first), (b, with_length b, [], ((part_short b p.second, refl), p.second), (p.whole, refl), sym (append-nil (with_length b))), refl)

pub path_spelled : IsSpelledBy path (λ v. is_path v ≡ true) path_digits
path_spelled = record { only = path_only; spelled = path_again }

pub record FitsPlaced (before : List Placed) (v : Placed) : Type 0 where
  pub path : (is_path v.path ≡ true) × (is_free_path before v.path ≡ true)
  pub disk : v.disk.0 < limit bits32

placed_only : (before : List Placed) (v : Placed) (bytes : List ℕ) → Spells (placed before) v bytes → FitsPlaced before v × (bytes ≡ placed_digits v)
unfolding placed placed_digits
placed_only before v bytes s =
    let t1 = s.4 in
    let a0 = (such_that_spelled path (λ v. is_path v ≡ true) path_digits (is_free_path before) path_spelled).only s.0 s.1 s.3 in
    let a1 = (number_spelled bits32).only t1.0 t1.1 t1.3 in
    let tail : s.2 ≡ digits bits32 t1.0 = t1.5 ∙ rw (a1.1, t1.4.1) (append-nil (digits bits32 t1.0)) in
    let whole : bytes ≡ path_digits s.0 ++ (digits bits32 t1.0) = s.5 ∙ rw (a0.1, tail) refl in
    rw t1.4.0 (record { path = a0.0; disk = a1.0 }, whole)

placed_again : (before : List Placed) (v : Placed) → FitsPlaced before v → Spells (placed before) v (placed_digits v)
unfolding placed placed_digits
placed_again before v fits = (v.path, path_digits v.path, digits bits32 v.disk.0, (such_that_spelled path (λ v. is_path v ≡ true) path_digits (is_free_path before) path_spelled).spelled (v.path) fits.path, (v.disk.0, digits bits32 v.disk.0, [], (number_spelled bits32).spelled (v.disk.0) fits.disk, (refl, refl), sym (append-nil (digits bits32 v.disk.0))), refl)

pub placed_spelled : (before : List Placed) → IsSpelledBy (placed before) (FitsPlaced before) placed_digits
placed_spelled before = record { only = placed_only before; spelled = placed_again before }
