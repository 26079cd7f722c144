-- Lists of bytes of a bounded length, put together.
use Rattle.std.proofs.Common.{◌≡◌, ℕ, zero, suc, ◌+◌, ◌*◌, ◌<◌, ◌≤◌, Bool, true, false, List, [], ◌∷◌, ◌++◌, length, refl, inl, inr, arith, length-append}
use Rattle.std.specs.Prelude.{◌&&◌, nat_le, nat_lt, Option, None, Some, IfSome}
use Rattle.std.specs.List.{flat_map, list_all}
use Rattle.std.specs.Str.{IsAscii}
use Rattle.std.proofs.lemmas.Bool.{and_parts, cases_lt, leb-true}
use Rattle.std.proofs.lemmas.List.{get_or_past}
use Rattle.std.proofs.Math.Nat.{mul-le-mul_left}
use Rattle.sm_base.specs.Name.{name_byte, word_byte, is_word, is_part, is_label, is_snapshot_name}
use Rattle.sm_base.proofs.NameLemmas.{part_is_ascii, label_is_ascii, snapshot_name_is_ascii}
use Rattle.sm_base.specs.declared.numbers.Ident.{Ident}
use Rattle.sm_defs.specs.Words.{Among}
use Rattle.sm_fields.specs.Format.{Size, bits8, bits32, bits64}
use Rattle.sm_fields.specs.Grammar.{digits, limit, with_length, truth_digits, identity_digits, option_digits, IsIdentity}
use Rattle.sm_fields.specs.Place.{IsBytes}
use Rattle.sm_fields.specs.Reading.{width}

-- bytes, at most so many
pub record Brief (xs : List ℕ) (most : ℕ) : Type 0 where
  pub bytes : IsBytes xs
  pub short : length xs ≤ most

no_bytes : IsBytes []
no_bytes i = omega arith

pub one_more : (x : ℕ) (xs : List ℕ) → x < 256 → IsBytes xs → IsBytes (x ∷ xs)
one_more x xs small rest zero = small
one_more x xs small rest (suc i) = rest i

bytes_append : (xs ys : List ℕ) → IsBytes xs → IsBytes ys → IsBytes (xs ++ ys)
bytes_append [] ys p q = q
bytes_append (x ∷ xs) ys p q = one_more x (xs ++ ys) (p 0) (bytes_append xs ys (λ i. p (suc i)) q)

pub both : (xs ys : List ℕ) (m n : ℕ) → Brief xs m → Brief ys n → Brief (xs ++ ys) (m + n)
both xs ys m n p q = record {
  bytes = bytes_append xs ys p.bytes q.bytes;
  short = (let a = p.short in let b = q.short in omega (arith, length-append xs ys, a, b));
}

pub longer : (xs : List ℕ) (m n : ℕ) → m ≤ n → Brief xs m → Brief xs n
longer xs m n le p = record { bytes = p.bytes; short = (let a = p.short in omega (arith, a, le)) }

pub nothing : Brief [] 0
nothing = record { bytes = no_bytes; short = omega arith }

pub each_piece : {X : Type 0} (f : X → List ℕ) (m : ℕ) (xs : List X) → ((x : X) → Among xs x → Brief (f x) m) → Brief (flat_map f xs) (m * length xs)
each_piece f m [] each = longer [] 0 (m * 0) (omega arith) nothing
each_piece f m (x ∷ xs) each =
    let here = both (f x) (flat_map f xs) m (m * length xs) (each x (inl refl)) (each_piece f m xs (λ y among. each y (inr among))) in
    longer (f x ++ flat_map f xs) (m + m * length xs) (m * suc (length xs)) (omega arith) here

pub few_pieces : {X : Type 0} (f : X → List ℕ) (m n : ℕ) (xs : List X) → length xs ≤ n → ((x : X) → Among xs x → Brief (f x) m) → Brief (flat_map f xs) (m * n)
few_pieces f m n xs few each = longer (flat_map f xs) (m * length xs) (m * n) (mul-le-mul_left m few) (each_piece f m xs each)

-- ---- numbers

pub digits_brief : (size : Size) (n : ℕ) → n < limit size → Brief (digits size n) (width size)
unfolding digits
digits_brief bits8 n small = record { bytes = one_more n [] small no_bytes; short = omega arith }
digits_brief bits32 n small = record { bytes = four; short = omega arith }
  where
    four : IsBytes (digits bits32 n)
    four zero = omega arith
    four (suc zero) = omega arith
    four (suc (suc zero)) = omega arith
    four (suc (suc (suc zero))) = omega arith
    four (suc (suc (suc (suc i)))) = omega arith
digits_brief bits64 n small = record { bytes = eight; short = omega arith }
  where
    eight : IsBytes (digits bits64 n)
    eight zero = omega arith
    eight (suc zero) = omega arith
    eight (suc (suc zero)) = omega arith
    eight (suc (suc (suc zero))) = omega arith
    eight (suc (suc (suc (suc zero)))) = omega arith
    eight (suc (suc (suc (suc (suc zero))))) = omega arith
    eight (suc (suc (suc (suc (suc (suc zero)))))) = omega arith
    eight (suc (suc (suc (suc (suc (suc (suc zero))))))) = omega arith
    eight (suc (suc (suc (suc (suc (suc (suc (suc i)))))))) = omega arith

pub truth_brief : (b : Bool) → Brief (truth_digits b) 1
truth_brief true = record { bytes = one_more 1 [] (omega arith) no_bytes; short = omega arith }
truth_brief false = record { bytes = one_more 0 [] (omega arith) no_bytes; short = omega arith }

pub identity_brief : (i : Ident) → IsIdentity i → Brief (identity_digits i) 12
identity_brief i is = both (digits bits32 i.origin) (digits bits64 i.seq) 4 8 (digits_brief bits32 i.origin is.0) (digits_brief bits64 i.seq is.1)

pub option_brief : {A : Type 0} (spelling : A → List ℕ) (m : ℕ) (o : Option A) → IfSome o (λ x. Brief (spelling x) m) → Brief (option_digits spelling o) (1 + m)
option_brief spelling m None is = longer (truth_digits false) 1 (1 + m) (omega arith) (truth_brief false)
option_brief spelling m (Some x) is = both (truth_digits true) (spelling x) 1 m (truth_brief true) is

-- ---- texts

ascii_bytes : (text : List ℕ) → IsAscii text → IsBytes text
ascii_bytes text is i = elim (cases_lt i (length text)) [
  | inl lt ↦ (let low = is i in omega (arith, low))
  | inr past ↦ rw (get_or_past text i 0 past) (omega arith)
]

most_of : (passes : ℕ → Bool) (most : ℕ) (text : List ℕ) → is_word passes most text ≡ true → length text ≤ most
most_of passes most text is =
    let tests = and_parts (nat_lt 0 (length text) && nat_le (length text) most) (list_all passes text) is in
    leb-true (length text) most (and_parts (nat_lt 0 (length text)) (nat_le (length text) most) tests.0).1

with_length_brief : (text : List ℕ) (most : ℕ) → most < 256 → length text ≤ most → IsBytes text → Brief (with_length text) (1 + most)
with_length_brief text most small short bytes = record { bytes = one_more (length text) text (omega arith) bytes; short = omega arith }

pub no_text : (most : ℕ) → most < 256 → Brief (with_length []) (1 + most)
no_text most small = with_length_brief [] most small (omega arith) no_bytes

pub part_brief : (text : List ℕ) → is_part text ≡ true → Brief (with_length text) 65
part_brief text is = with_length_brief text 64 (omega arith) (most_of name_byte 64 text is) (ascii_bytes text (part_is_ascii text is))

pub label_brief : (text : List ℕ) → is_label text ≡ true → Brief (with_length text) 32
label_brief text is = with_length_brief text 31 (omega arith) (most_of word_byte 31 text is) (ascii_bytes text (label_is_ascii text is))

pub name_brief : (text : List ℕ) → is_snapshot_name text ≡ true → Brief (with_length text) 65
name_brief text is = with_length_brief text 64 (omega arith) (most_of word_byte 64 text is) (ascii_bytes text (snapshot_name_is_ascii text is))
