-- The first word of a row with a bit set, by the mask of the lanes.
use Rattle.std.proofs.Common.{◌≡◌, ℕ, ◌+◌, ◌-◌, ◌%◌, ◌^◌, ◌<◌, ◌≤◌, Bool, true, false, not, cond, eqb, List, length, get_or, map, replicate, w64, sym, ◌∙◌, ap, inl, inr, arith}
use Rattle.std.proofs.lemmas.Bool.{cases_lt}
use Rattle.std.proofs.lemmas.Bool.Decides.{nat_tests}
use Rattle.std.proofs.lemmas.List.{length-map}
use Rattle.std.proofs.lemmas.Nat.Bits.{bit_at-trailing_zeros, bit_at_above}
use Rattle.std.proofs.lemmas.Simd.{length-chunk, bitmask_splat, none_from_empty_mask, trailing_mask_l, run_in_chunk_fails, run_in_chunk_stops, mask_l-lt}
use Rattle.std.specs.Int.{bit_at}
use Rattle.std.specs.Int.Count.{count_trailing_zeros}
use Rattle.std.specs.List.{prefix_len}
use Rattle.std.specs.Simd.Lanes.{zip2, chunk, mask_l, top}
use Rattle.sm_bits.specs.Words.{IsFirstFilled}

-- the word has a bit set
abbrev pub is_filled : ℕ → Bool
is_filled word = not (eqb word 0)

pub empty_word : (word : ℕ) → is_filled word ≡ false → word ≡ 0
empty_word word e = grind (arith, nat_tests)

pub filled_word : (word : ℕ) → is_filled word ≡ true → 0 < word
filled_word word e = grind (arith, nat_tests)

-- the mask of a row, as the lanes give it
abbrev pub row_mask : List ℕ → ℕ
row_mask row = mask_l (map (top 63) (zip2 (λ a b. cond (not (eqb a b)) (2 ^ 64 - 1) 0) row (replicate 8 0))) % 2 ^ 64

module _ (words : List ℕ) (at : ℕ) (room : at + 8 ≤ length words) where
  mask_is : row_mask (chunk at 8 words) ≡ mask_l (map is_filled (chunk at 8 words))
  mask_is = bitmask_splat w64 (λ a b. not (eqb a b)) (chunk at 8 words) 8 0 (length-chunk at 8 words room) (omega arith)

  pub passed_row : row_mask (chunk at 8 words) ≡ 0 → (k : ℕ) → at ≤ k → k < at + 8 → get_or words k 0 ≡ 0
  passed_row empty k from below =
      empty_word (get_or words k 0) (none_from_empty_mask is_filled words at 8 0 room (sym mask_is ∙ empty) k from below)

  mask_small : mask_l (map is_filled (chunk at 8 words)) < 2 ^ 8
  mask_small =
      let e : length (map is_filled (chunk at 8 words)) ≡ 8 = length-map (chunk at 8 words) is_filled ∙ length-chunk at 8 words room in
      rw e at (mask_l-lt (map is_filled (chunk at 8 words)))

  module _ (some : 0 < row_mask (chunk at 8 words)) where
    found : ℕ
    found = count_trailing_zeros 64 (row_mask (chunk at 8 words))

    some_l : 0 < mask_l (map is_filled (chunk at 8 words))
    some_l = rw mask_is at some

    counted : count_trailing_zeros 64 (row_mask (chunk at 8 words)) ≡ prefix_len (λ x. not (is_filled x)) (chunk at 8 words)
    counted =
        ap (count_trailing_zeros 64) mask_is
        ∙ trailing_mask_l is_filled 64 (chunk at 8 words) (rw (length-chunk at 8 words room) (omega arith)) some_l

    within_row : count_trailing_zeros 64 (row_mask (chunk at 8 words)) < 8
    within_row =
        let mask = row_mask (chunk at 8 words) in
        let small : mask < 2 ^ 8 = rw mask_is mask_small in
        let here = bit_at-trailing_zeros w64 mask some (omega arith) in
        elim (cases_lt (count_trailing_zeros 64 mask) 8) [
          | inl less ↦ less
          | inr more ↦
              let none : bit_at mask (count_trailing_zeros 64 mask) ≡ 0 = bit_at_above mask 8 (count_trailing_zeros 64 mask) small more in
              let one : bit_at mask (count_trailing_zeros 64 mask) ≡ 1 = here.1 in
              absurd (omega (arith, none, one))
        ]

    pub first_in_row : (from : ℕ) → from ≤ at → ((k : ℕ) → from ≤ k → k < at → get_or words k 0 ≡ 0)
        → IsFirstFilled words from (at + count_trailing_zeros 64 (row_mask (chunk at 8 words)))
    first_in_row from low passed =
        let found = count_trailing_zeros 64 (row_mask (chunk at 8 words)) in
        record {
          from_on = omega arith;
          within = omega (arith, within_row);
          passed = λ k lo hi. elim (cases_lt k at) [
            | inl below ↦ passed k lo below
            | inr over ↦ empty_word (get_or words k 0) (run_in_chunk_fails is_filled words at 8 found 0 room counted k over hi)
          ];
          filled = λ less. filled_word (get_or words (at + found) 0) (run_in_chunk_stops is_filled words at 8 found 0 room counted within_row);
        }
