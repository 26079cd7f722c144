-- The marks that words spell.
use Rattle.std.proofs.Common.{◌≡◌, ◌≢◌, ℕ, ◌*◌, ◌/◌, ◌-◌, ◌%◌, ◌^◌, ◌<◌, Bool, true, false, cond, eqb, List, length, get_or, set, replicate, bit_and, bit_or, w64, refl, sym, ◌∙◌, ap, subst, inl, inr, arith}
use Rattle.std.proofs.lemmas.Bool.{cases_lt, cases_eq}
use Rattle.std.proofs.lemmas.Bool.Decides.{nat_tests}
use Rattle.std.proofs.lemmas.List.{get_or_past, get_or-set_same, get_or-set_other, length-set, get_or-replicate, length-replicate}
use Rattle.std.proofs.lemmas.List.FromFn.{length-map-range_with_len, get_or-map-range_with_len, fill_by_all}
use Rattle.std.proofs.lemmas.Nat.Bits.{bit_at_set_same, bit_at_set_other, bit_at_clear_same, bit_at_clear_other, shr_and_one}
use Rattle.std.proofs.lemmas.Simd.{length-zip2, get_or-zip2}
use Rattle.std.specs.Int.{bit_at}
use Rattle.std.specs.Simd.Lanes.{zip2}
use Rattle.sm_bits.specs.Places.{has}
use Rattle.sm_bits.specs.Words.{bit, marks, words_for, AreWordsOf}
use Rattle.sm_bits.proofs.BitPlaces.{clear_word, clear_past}

pub length-marks : (places : ℕ) (words : List ℕ) → length (marks places words) ≡ places
unfolding marks
length-marks places words = length-map-range_with_len (bit words) 0 places

pub has-marks : (places : ℕ) (words : List ℕ) (place : ℕ) → place < places → has (marks places words) place ≡ bit words place
unfolding marks
has-marks places words place less = get_or-map-range_with_len (bit words) 0 places place place false less (omega arith)

-- no bit is set past the last place, so the bits are the set
pub has_is_bit : (places : ℕ) (words : List ℕ) → AreWordsOf places words → (place : ℕ) → has (marks places words) place ≡ bit words place
has_is_bit places words are place = elim (cases_lt place places) [
  | inl less ↦ has-marks places words place less
  | inr past ↦ get_or_past (marks places words) place false (rw length-marks past) ∙ sym (are.clear place past)
]

pub marks_are : (places : ℕ) (words : List ℕ) (xs : List Bool) → length xs ≡ places → ((place : ℕ) → place < places → has xs place ≡ bit words place) → marks places words ≡ xs
unfolding marks
marks_are places words xs long same = sym (fill_by_all (bit words) xs places false long same)

-- there is a word for each place
pub word_of : (places : ℕ) (words : List ℕ) → AreWordsOf places words → (place : ℕ) → place < places → place / 64 < length words
word_of places words are place less = omega (arith, are.rows)

-- the empty set
module _ (places : ℕ) where
  pub clear_words : (n place : ℕ) → bit (replicate n 0) place ≡ false
  clear_words n place = elim (cases_lt (place / 64) n) [
    | inl less ↦ clear_word (replicate n 0) place (get_or-replicate n (place / 64) 0 0 less)
    | inr past ↦ clear_past (replicate n 0) place (rw length-replicate past)
  ]

  pub empty_words : places < 2 ^ 32 → AreWordsOf places (replicate (words_for places) 0)
  empty_words short = record { short = short; rows = length-replicate (words_for places) 0; clear = λ place past. clear_words (words_for places) place }

  pub empty_marks : marks places (replicate (words_for places) 0) ≡ replicate places false
  empty_marks = marks_are places (replicate (words_for places) 0) (replicate places false) (length-replicate places false)
      (λ place less. get_or-replicate places place false false less ∙ sym (clear_words (words_for places) place))

-- one word is changed in one bit
module _ (places : ℕ) (words : List ℕ) (are : AreWordsOf places words) (at : ℕ) (less : at < places) (word : ℕ) (mark : Bool)
    (same : eqb (bit_at word (at % 64)) 1 ≡ mark)
    (others : (i : ℕ) → i < 64 → i ≢ at % 64 → bit_at word i ≡ bit_at (get_or words (at / 64) 0) i) where
  at_place : (place : ℕ) → place ≡ at → bit (set words (at / 64) word) place ≡ mark
  unfolding bit
  at_place place here =
      let k : place / 64 ≡ at / 64 = ap (λ n. n / 64) here in
      let i : place % 64 ≡ at % 64 = ap (λ n. n % 64) here in
      rw (k, i, get_or-set_same words (at / 64) word 0 (word_of places words are at less)) same

  elsewhere : (place : ℕ) → place ≢ at → bit (set words (at / 64) word) place ≡ bit words place
  unfolding bit
  elsewhere place other = elim (cases_eq (place / 64) (at / 64)) [
    | inl k ↦
        let i : place % 64 ≢ at % 64 = λ e. other (omega (arith, k, e)) in
        rw (k, get_or-set_same words (at / 64) word 0 (word_of places words are at less)) (ap (λ n. eqb n 1) (others (place % 64) (omega arith) i))
    | inr k ↦ rw (get_or-set_other words (at / 64) (place / 64) word 0 k) refl
  ]

  changed : (place : ℕ) → bit (set words (at / 64) word) place ≡ cond (eqb place at) mark (bit words place)
  changed place = elim (cases_eq place at) [
    | inl here ↦
        let test : eqb place at ≡ true = grind (arith, nat_tests) in
        at_place place here ∙ sym (ap (λ b. cond b mark (bit words place)) test)
    | inr other ↦
        let test : eqb place at ≡ false = grind (arith, nat_tests) in
        elsewhere place other ∙ sym (ap (λ b. cond b mark (bit words place)) test)
  ]

  pub changed_words : AreWordsOf places (set words (at / 64) word)
  changed_words = record {
    short = are.short;
    rows = length-set words (at / 64) word ∙ are.rows;
    clear = λ place past. changed place ∙ ap (λ b. cond b mark (bit words place)) (let h : eqb place at ≡ false = grind (arith, nat_tests) in h) ∙ are.clear place past;
  }

  pub changed_marks : marks places (set words (at / 64) word) ≡ set (marks places words) at mark
  changed_marks = marks_are places (set words (at / 64) word) (set (marks places words) at mark)
      (length-set (marks places words) at mark ∙ length-marks places words)
      (λ place inside. elim (cases_eq place at) [
        | inl here ↦
            rw here (get_or-set_same (marks places words) at mark false (rw length-marks less)) ∙ sym (at_place place here)
        | inr other ↦
            get_or-set_other (marks places words) at place mark false other ∙ has-marks places words place inside ∙ sym (elsewhere place other)
      ])

-- two sets joined place by place
module _ (places : ℕ) (old other new : List ℕ) (are : AreWordsOf places old) (others : AreWordsOf places other) (same : length new ≡ length old)
    (f : Bool → Bool → Bool) (none : f false false ≡ false)
    (each : (place : ℕ) → place / 64 < length old → bit new place ≡ f (bit old place) (bit other place)) where
  pub joined_words : AreWordsOf places new
  joined_words = record {
    short = are.short;
    rows = same ∙ are.rows;
    clear = λ place past. elim (cases_lt (place / 64) (length old)) [
      | inl inside ↦ each place inside ∙ ap (λ b. f b (bit other place)) (are.clear place past) ∙ ap (f false) (others.clear place past) ∙ none
      | inr out ↦ clear_past new place (rw same out)
    ];
  }

  pub joined_marks : marks places new ≡ zip2 f (marks places old) (marks places other)
  joined_marks = marks_are places new (zip2 f (marks places old) (marks places other))
      (length-zip2 f (marks places old) (marks places other) (length-marks places old ∙ sym (length-marks places other)) ∙ length-marks places old)
      (λ place less.
      get_or-zip2 f (marks places old) (marks places other) place false false false (rw length-marks less) (rw length-marks less)
      ∙ ap (λ b. f b (has (marks places other) place)) (has-marks places old place less)
      ∙ ap (f (bit old place)) (has-marks places other place less)
      ∙ sym (each place (word_of places old are place less)))

-- a place of the set is a place of the words
pub within : (places : ℕ) (words : List ℕ) (set : List Bool) → marks places words ≡ set → (at : ℕ) → at < length set → at < places
within places words set is at less = omega (arith, ap length is, length-marks places words)

-- one bit of a word is set, or cleared
module _ (words : List ℕ) (at word : ℕ) (is : word ≡ get_or words (at / 64) 0) where
  pub set_here : eqb (bit_at (bit_or word (1 * 2 ^ (at % 64) % 2 ^ 64)) (at % 64)) 1 ≡ true
  set_here = ap (λ n. eqb n 1) (bit_at_set_same w64 word (at % 64) (omega arith))

  pub set_others : (i : ℕ) → i < 64 → i ≢ at % 64 → bit_at (bit_or word (1 * 2 ^ (at % 64) % 2 ^ 64)) i ≡ bit_at (get_or words (at / 64) 0) i
  set_others i less other = bit_at_set_other w64 word (at % 64) (omega arith) i other ∙ ap (λ n. bit_at n i) is

  pub clear_here : eqb (bit_at (bit_and word (2 ^ 64 - 1 - 1 * 2 ^ (at % 64) % 2 ^ 64)) (at % 64)) 1 ≡ false
  clear_here = ap (λ n. eqb n 1) (bit_at_clear_same w64 word (at % 64) (omega arith))

  pub clear_others : (i : ℕ) → i < 64 → i ≢ at % 64 → bit_at (bit_and word (2 ^ 64 - 1 - 1 * 2 ^ (at % 64) % 2 ^ 64)) i ≡ bit_at (get_or words (at / 64) 0) i
  clear_others i less other = bit_at_clear_other w64 word (at % 64) (omega arith) i less other ∙ ap (λ n. bit_at n i) is

  -- the test of the bit
  pub tested : (place : ℕ) → place ≡ at → eqb (bit_and (word / 2 ^ (at % 64)) 1) 1 ≡ bit words place
  unfolding bit
  tested place here = ap (λ n. eqb n 1) (shr_and_one word (at % 64) ∙ ap (λ n. bit_at n (at % 64)) is) ∙ rw here refl

-- two sets of as many places
module _ (places others : ℕ) (words other_words : List ℕ) (xs ys : List Bool) (is : marks places words ≡ xs) (other_is : marks others other_words ≡ ys) (same : length ys ≡ length xs) where
  pub places_agree : others ≡ places
  places_agree = sym (length-marks others other_words) ∙ ap length other_is ∙ same ∙ sym (ap length is) ∙ length-marks places words

  -- the words of the one are words of as many places as the other has
  pub words_agree : AreWordsOf others other_words → AreWordsOf places other_words
  words_agree are = subst (λ n. AreWordsOf n other_words) places_agree are

-- the words of two sets of as many places are as many
pub as_many : (places others : ℕ) (words other_words : List ℕ) → AreWordsOf places words → AreWordsOf others other_words → others ≡ places → length other_words ≡ length words
as_many places others words other_words are too same = too.rows ∙ ap words_for same ∙ sym are.rows

-- there are few words
pub few_words : (places : ℕ) (words : List ℕ) → AreWordsOf places words → length words < 2 ^ 32
few_words places words are = omega (arith, are.rows, are.short)
