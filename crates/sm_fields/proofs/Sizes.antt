-- A number in its bytes is that number again, for each size.
use Rattle.std.proofs.Common.{◌≡◌, ℕ, Bool, true, false, suc, ◌+◌, ◌<◌, List, [], ◌∷◌, length, get_or, take, drop, refl, arith, inl, inr, length-append}
use Rattle.std.proofs.lemmas.Bool.{cases_lt}
use Rattle.std.proofs.lemmas.List.{length-take, get_or-drop, get_or-take, get_or_past}
use Rattle.std.proofs.lemmas.Nat.{be_bytes_4, be_bytes_8, from_be_bytes-to_be_bytes_4, from_be_bytes-to_be_bytes_8}
use Rattle.sm_base.specs.declared.numbers.Ident.{Ident}
use Rattle.sm_fields.specs.Format.{Size, bits8, bits32, bits64}
use Rattle.sm_fields.specs.Grammar.{digits, limit, truth_digits, identity_digits}
use Rattle.sm_fields.specs.Place.{IsBytes}
use Rattle.sm_fields.specs.Reading.{width, number_of}

pub IsBytes-drop : (n : ℕ) (bytes : List ℕ) → IsBytes bytes → IsBytes (drop n bytes)
IsBytes-drop n bytes h i = rw get_or-drop (h (n + i))

pub IsBytes-take : (n : ℕ) (bytes : List ℕ) → IsBytes bytes → IsBytes (take n bytes)
IsBytes-take n bytes h i =
    elim (cases_lt i n) [
      | inl lt ↦ rw (get_or-take n bytes i 0 lt) (h i)
      | inr le ↦ rw (get_or_past (take n bytes) i 0 (omega (arith, length-take n bytes))) (omega arith)
    ]

pub IsBytes-rest : (b : ℕ) (bytes : List ℕ) → IsBytes (b ∷ bytes) → IsBytes bytes
IsBytes-rest b bytes h i = h (suc i)

pub length-digits : (size : Size) (n : ℕ) → length (digits size n) ≡ width size
unfolding digits
length-digits bits8 n = refl
length-digits bits32 n = refl
length-digits bits64 n = refl

one_byte : (bytes : List ℕ) → length bytes ≡ 1 → get_or bytes 0 0 ∷ [] ≡ bytes
one_byte [] e = absurd (omega arith)
one_byte (b ∷ []) e = refl
one_byte (b ∷ c ∷ bytes) e = absurd (omega arith)

pub digits-number_of : (size : Size) (bytes : List ℕ) → length bytes ≡ width size → IsBytes bytes → digits size (number_of size bytes) ≡ bytes
unfolding digits
digits-number_of bits8 bytes len fits = one_byte bytes len
digits-number_of bits32 bytes len fits = be_bytes_4 bytes _ len fits refl
digits-number_of bits64 bytes len fits = be_bytes_8 bytes _ len fits refl

pub number_of-digits : (size : Size) (n : ℕ) → n < limit size → number_of size (digits size n) ≡ n
unfolding digits
number_of-digits bits8 n lt = refl
number_of-digits bits32 n lt = from_be_bytes-to_be_bytes_4 n lt
number_of-digits bits64 n lt = from_be_bytes-to_be_bytes_8 n lt

pub number_of_below : (size : Size) (bytes : List ℕ) → IsBytes bytes → number_of size bytes < limit size
number_of_below bits8 bytes fits = fits 0
number_of_below bits32 bytes fits = omega (arith, fits 0, fits 1, fits 2, fits 3)
number_of_below bits64 bytes fits = omega (arith, fits 0, fits 1, fits 2, fits 3, fits 4, fits 5, fits 6, fits 7)

pub length-identity_digits : (i : Ident) → length (identity_digits i) ≡ 12
length-identity_digits i = omega (arith, length-append (digits bits32 i.origin) (digits bits64 i.seq), length-digits bits32 i.origin, length-digits bits64 i.seq)

pub length-truth_digits : (v : Bool) → length (truth_digits v) ≡ 1
length-truth_digits true = refl
length-truth_digits false = refl
