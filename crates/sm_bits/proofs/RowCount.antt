-- The sum of the set bits of a row, lane by lane.
use Rattle.std.proofs.Common.{◌≡◌, ℕ, ◌+◌, ◌*◌, ◌%◌, ◌^◌, ◌<◌, ◌≤◌, List, [], ◌∷◌, length, get_or, map, take, sum_by, count_ones, Fits, w64, sym, ◌∙◌, ap, zero-add, arith}
use Rattle.std.proofs.lemmas.List.Sums.{sum_by-cons, sum_by-append}
use Rattle.std.proofs.lemmas.Nat.{ones-le}
use Rattle.std.proofs.lemmas.Simd.{chunk-fits, length-chunk}
use Rattle.std.proofs.Math.Seq.{take-add}
use Rattle.std.proofs.Math.Nat.{mod-eq_of_lt}
use Rattle.std.specs.Simd.Lanes.{Each1, fold_l, chunk}

-- how the lanes are added
abbrev pub wrapped : ℕ → ℕ → ℕ
wrapped a b = (a + b) % 2 ^ 64

pub lanes_total : (a : ℕ) (xs : List ℕ) → Each1 (Fits w64) xs → a + 64 * length xs < 2 ^ 64
    → (fold_l wrapped a (map (λ n. n) (map count_ones xs)) ≡ a + sum_by count_ones xs) × (sum_by count_ones xs ≤ 64 * length xs)
lanes_total a [] fits small = (omega arith, omega arith)
lanes_total a (x ∷ xs) fits small =
    let few : count_ones x ≤ 64 = ones-le 64 x fits.0.fits in
    let sum : sum_by count_ones (x ∷ xs) ≡ count_ones x + sum_by count_ones xs = sum_by-cons count_ones x xs in
    let rest = lanes_total (a + count_ones x) xs fits.1 (omega arith) in
    let here : (a + count_ones x) % 2 ^ 64 ≡ a + count_ones x = mod-eq_of_lt (omega arith) in
    (ap (λ n. fold_l wrapped n (map (λ n. n) (map count_ones xs))) here ∙ rest.0 ∙ omega (arith, sum), omega (arith, sum, rest.1))

-- what a row adds
abbrev pub added : List ℕ → ℕ
added row = fold_l wrapped 0 (map (λ n. n) (map count_ones row))

module _ (words : List ℕ) (at : ℕ) (room : at + 8 ≤ length words) (fits : (k : ℕ) → Fits w64 (get_or words k 0)) where
  pub row_counted : (added (chunk at 8 words) ≤ 512) × (added (chunk at 8 words) ≡ sum_by count_ones (chunk at 8 words))
  row_counted =
      let long = length-chunk at 8 words room in
      let both = lanes_total 0 (chunk at 8 words) (chunk-fits w64 at 8 words fits) (rw long (omega arith)) in
      let few : sum_by count_ones (chunk at 8 words) ≤ 64 * 8 = rw long at both.1 in
      let same : added (chunk at 8 words) ≡ sum_by count_ones (chunk at 8 words) = both.0 ∙ zero-add (sum_by count_ones (chunk at 8 words)) in
      (omega (arith, same), same)

  pub rows_counted : (total : ℕ) → total ≡ sum_by count_ones (take at words) → total + added (chunk at 8 words) ≡ sum_by count_ones (take (at + 8) words)
  rows_counted total is =
      ap (λ n. n + added (chunk at 8 words)) is
      ∙ ap (λ n. sum_by count_ones (take at words) + n) row_counted.1
      ∙ sym (sum_by-append count_ones (take at words) (chunk at 8 words))
      ∙ ap (sum_by count_ones) (sym (take-add at 8 words))
