-- Reading a format from left to right: the value and the place behind it, or the place of the first fault.
use Rattle.std.specs.Prelude.{ℕ, ◌+◌, List, [], ◌∷◌, length, take, drop, slice_index, Result, Ok, Err, nat_lt, nat_le, ◌&&◌, ◌==◌, if◌then◌else◌}
use Rattle.std.specs.Int.{w32, w64, from_be_bytes}
use Rattle.sm_fields.specs.Format.{Format, Size, bits8, bits32, bits64}
use Rattle.sm_fields.specs.Place.{Place, moved}

abbrev pub and_then : {A B : Type 0} → Result A ℕ → (A → Result B ℕ) → Result B ℕ
and_then (Ok x) f = f x
and_then (Err at) f = Err at

abbrev pub width : Size → ℕ
width bits8 = 1
width bits32 = 4
width bits64 = 8

abbrev pub number_of : Size → List ℕ → ℕ
number_of bits8 bytes = slice_index bytes 0
number_of bits32 bytes = from_be_bytes w32 bytes
number_of bits64 bytes = from_be_bytes w64 bytes

abbrev pub number_at : Size → Place → Result (ℕ × Place) ℕ
number_at size p = if nat_lt (length p.rest) (width size) then Err p.at else Ok (number_of size (take (width size) p.rest), moved p (width size))

abbrev pub text_in : ℕ → ℕ → List ℕ → Result (List ℕ × Place) ℕ
text_in most at [] = Err at
text_in most at (len ∷ rest) = if nat_le len most && nat_le len (length rest) then Ok (take len rest, record { at = at + (1 + len); rest = drop len rest }) else Err at

abbrev pub read : {A : Type 0} → Format A → Place → Result (A × Place) ℕ
read (Format.empty a) p = Ok (a, p)
read (Format.number size) p = number_at size p
read (Format.text most) p = text_in most p.at p.rest
read (Format.such_that f holds) p = and_then (read f p) (λ x. if holds x.0 then Ok x else Err p.at)
read (Format.then f next) p = and_then (read f p) (λ x. read (next x.0) x.1)

-- a record that fills these bytes
abbrev pub whole : {A : Type 0} → Format A → List ℕ → Result A ℕ
whole f bytes = and_then (read f (record { at = 0; rest = bytes })) (λ x. if length x.1.rest == 0 then Ok x.0 else Err x.1.at)
