-- The bits of a word, as places.
use Rattle.std.proofs.Common.{◌≡◌, ℕ, ◌+◌, ◌*◌, ◌/◌, ◌-◌, ◌%◌, ◌^◌, ◌<◌, ◌≤◌, true, false, eqb, List, length, get_or, w64, Fits, refl, sym, ◌∙◌, ap, inl, inr, arith}
use Rattle.std.proofs.lemmas.Bool.{cases_lt}
use Rattle.std.proofs.lemmas.List.{get_or_past}
use Rattle.std.proofs.lemmas.Nat.Bits.{bit_at-trailing_zeros, bit_at_above, bit_at-zero}
use Rattle.std.proofs.Math.Nat.{div-le_self}
use Rattle.std.proofs.Math.Pow.{shr-shr}
use Rattle.std.specs.Int.{bit_at}
use Rattle.std.specs.Int.Count.{count_trailing_zeros}
use Rattle.sm_bits.specs.Words.{bit, IsLeastBit, IsFirstFilled}

-- bit i of word k stands for place 64 * k + i
pub bit_of_word : (words : List ℕ) (k i place : ℕ) → i < 64 → 64 * k + i ≡ place → bit words place ≡ eqb (bit_at (get_or words k 0) i) 1
unfolding bit
bit_of_word words k i place less is =
    let high : place / 64 ≡ k = omega arith in
    let low : place % 64 ≡ i = omega arith in
    rw (high, low) refl

pub clear_word : (words : List ℕ) (place : ℕ) → get_or words (place / 64) 0 ≡ 0 → bit words place ≡ false
unfolding bit
clear_word words place empty = rw (empty, bit_at-zero (place % 64)) refl

pub clear_past : (words : List ℕ) (place : ℕ) → length words ≤ place / 64 → bit words place ≡ false
clear_past words place past = clear_word words place (get_or_past words (place / 64) 0 past)

shifted : (w s i : ℕ) → bit_at (w / 2 ^ s) i ≡ bit_at w (s + i)
shifted w s i = ap (λ n. n % 2) (shr-shr w s i)

is_one : (n : ℕ) → n ≡ 1 → eqb n 1 ≡ true
is_one n e = ap (λ m. eqb m 1) e

is_no_one : (n : ℕ) → n ≡ 0 → eqb n 1 ≡ false
is_no_one n e = ap (λ m. eqb m 1) e

-- the first word, from a place within it on
module _ (words : List ℕ) (from : ℕ) (fits : Fits w64 (get_or words (from / 64) 0)) where
  here : (i : ℕ) → from % 64 + i < 64 → bit words (from + i) ≡ eqb (bit_at (get_or words (from / 64) 0 / 2 ^ (from % 64)) i) 1
  here i less =
      let is : 64 * (from / 64) + (from % 64 + i) ≡ from + i = omega arith in
      bit_of_word words (from / 64) (from % 64 + i) (from + i) less is
      ∙ ap (λ n. eqb n 1) (sym (shifted (get_or words (from / 64) 0) (from % 64) i))

  pub first_here : 0 < get_or words (from / 64) 0 / 2 ^ (from % 64)
      → IsLeastBit words from (from + count_trailing_zeros 64 (get_or words (from / 64) 0 / 2 ^ (from % 64)))
  first_here some =
      let w = get_or words (from / 64) 0 in
      let rest = w / 2 ^ (from % 64) in
      let t = count_trailing_zeros 64 rest in
      let no_more : rest ≤ w = div-le_self w (2 ^ (from % 64)) in
      let small : rest < 2 ^ 64 = omega (arith, fits.fits) in
      let lowest = bit_at-trailing_zeros w64 rest some small in
      let within : from % 64 + t < 64 = elim (cases_lt (from % 64 + t) 64) [
        | inl less ↦ less
        | inr more ↦
            let none : bit_at rest t ≡ 0 = shifted w (from % 64) t ∙ bit_at_above w 64 (from % 64 + t) fits.fits more in
            absurd (omega (arith, none, lowest.1))
      ] in record {
        from_on = omega arith;
        is_set = here t within ∙ is_one (bit_at rest t) lowest.1;
        least = λ other low high.
            let e : from + (other - from) ≡ other = omega arith in
            let less : from % 64 + (other - from) < 64 = omega arith in
            ap (bit words) (sym e) ∙ here (other - from) less ∙ is_no_one (bit_at rest (other - from)) (lowest.2 (other - from) (omega arith));
      }

  pub none_here : get_or words (from / 64) 0 / 2 ^ (from % 64) ≡ 0 → (place : ℕ) → from ≤ place → place < 64 * (from / 64 + 1) → bit words place ≡ false
  none_here none place low high =
      let e : from + (place - from) ≡ place = omega arith in
      let less : from % 64 + (place - from) < 64 = omega arith in
      ap (bit words) (sym e) ∙ here (place - from) less
      ∙ ap (λ n. eqb (bit_at n (place - from)) 1) none ∙ is_no_one (bit_at 0 (place - from)) (bit_at-zero (place - from))

  -- a later word
  pub first_later : (next : ℕ) → get_or words (from / 64) 0 / 2 ^ (from % 64) ≡ 0 → Fits w64 (get_or words next 0) → IsFirstFilled words (from / 64 + 1) next → next < length words
      → IsLeastBit words from (next * 64 + count_trailing_zeros 64 (get_or words next 0))
  first_later next none small first less =
      let w = get_or words next 0 in
      let t = count_trailing_zeros 64 w in
      let lowest = bit_at-trailing_zeros w64 w (first.filled less) small.fits in record {
        from_on = omega (arith, first.from_on);
        is_set = bit_of_word words next t (next * 64 + t) lowest.0 (omega arith) ∙ is_one (bit_at w t) lowest.1;
        least = λ other low high. elim (cases_lt other (64 * (from / 64 + 1))) [
          | inl early ↦ none_here none other low early
          | inr late ↦ elim (cases_lt (other / 64) next) [
            | inl before ↦ clear_word words other (first.passed (other / 64) (omega arith) before)
            | inr at ↦
                let e : 64 * next + other % 64 ≡ other = omega (arith, lowest.0) in
                bit_of_word words next (other % 64) other (omega arith) e ∙ is_no_one (bit_at w (other % 64)) (lowest.2 (other % 64) (omega arith))
          ]
        ];
      }

  pub none_later : (next : ℕ) → get_or words (from / 64) 0 / 2 ^ (from % 64) ≡ 0 → IsFirstFilled words (from / 64 + 1) next → next ≡ length words
      → (place : ℕ) → from ≤ place → bit words place ≡ false
  none_later next none first all place low = elim (cases_lt place (64 * (from / 64 + 1))) [
    | inl early ↦ none_here none place low early
    | inr late ↦ elim (cases_lt (place / 64) next) [
      | inl before ↦ clear_word words place (first.passed (place / 64) (omega arith) before)
      | inr past ↦ clear_past words place (omega arith)
    ]
  ]
