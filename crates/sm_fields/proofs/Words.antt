-- Reading one byte of a word after the other.
use Rattle.std.proofs.Common.{◌≡◌, ℕ, ◌+◌, ◌<◌, ◌≤◌, ◌==◌, Bool, true, List, length, get_or, drop, Result, Ok, Err, refl, sym, ap, ◌∙◌, add-one, drop-cons}
use Rattle.std.proofs.lemmas.List.{drop_all}
use Rattle.sm_fields.specs.Format.{Format, bits8, word}
use Rattle.sm_fields.specs.Place.{Place}
use Rattle.sm_fields.specs.Reading.{and_then, read}

abbrev byte_that : ℕ → Format ℕ
byte_that b = Format.such_that (Format.number bits8) (λ n. n == b)

next_byte : (bytes : List ℕ) (i : ℕ) → i < length bytes → word (drop i bytes) ≡ Format.then (byte_that (get_or bytes i 0)) (λ _. word (drop (i + 1) bytes))
unfolding word
next_byte bytes i lt = rw (drop-cons bytes i 0, add-one) refl

pub word_goes_on : (bytes : List ℕ) (i b x : ℕ) (here after : Place) (total : Result (Bool × Place) ℕ) → i < length bytes → get_or bytes i 0 ≡ b → read (byte_that b) here ≡ Ok (x, after)
    → read (word (drop i bytes)) here ≡ total → read (word (drop (i + 1) bytes)) after ≡ total
word_goes_on bytes i b x here after total lt is h so_far =
    let one : read (word (drop i bytes)) here ≡ and_then (read (byte_that b) here) (λ y. read (word (drop (i + 1) bytes)) y.1) = rw (next_byte bytes i lt, is) refl in
    let two : and_then (read (byte_that b) here) (λ y. read (word (drop (i + 1) bytes)) y.1) ≡ read (word (drop (i + 1) bytes)) after = ap (λ r. and_then r (λ y. read (word (drop (i + 1) bytes)) y.1)) h in
    sym (one ∙ two) ∙ so_far

pub word_ends : (bytes : List ℕ) (i b k : ℕ) (here : Place) (total : Result (Bool × Place) ℕ) → i < length bytes → get_or bytes i 0 ≡ b → read (byte_that b) here ≡ Err k
    → read (word (drop i bytes)) here ≡ total → total ≡ Err k
word_ends bytes i b k here total lt is h so_far =
    let one : read (word (drop i bytes)) here ≡ and_then (read (byte_that b) here) (λ y. read (word (drop (i + 1) bytes)) y.1) = rw (next_byte bytes i lt, is) refl in
    let two : and_then (read (byte_that b) here) (λ y. read (word (drop (i + 1) bytes)) y.1) ≡ Err k = ap (λ r. and_then r (λ y. read (word (drop (i + 1) bytes)) y.1)) h in
    sym so_far ∙ one ∙ two

pub word_is_done : (bytes : List ℕ) (i : ℕ) (here : Place) (total : Result (Bool × Place) ℕ) → length bytes ≤ i → read (word (drop i bytes)) here ≡ total → total ≡ Ok (true, here)
unfolding word
word_is_done bytes i here total le so_far = sym so_far ∙ rw (drop_all i bytes le) refl
