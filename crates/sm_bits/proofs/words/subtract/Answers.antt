use Rattle.std.proofs.Common.{◌≡◌, ℕ, ◌+◌, ◌≤◌, ◌<◌, ◌/◌, ◌%◌, length, get_or, eqb, map, bit_and, ap, ◌∙◌, arith}
use Rattle.std.proofs.lemmas.Simd.{length-put_chunk}
use Rattle.std.specs.Int.{bit_at, bit_not, w64}
use Rattle.std.specs.Simd.Lanes.{zip2, chunk}
use Rattle.sm_bits.specs.Words.{bit}
use Rattle.sm_bits.proofs.BitOps.{without_bit}
use Rattle.sm_bits.proofs.Rows.{whole_row, next_row, done_more, left_more, length_mapped, each_mapped}
use Rattle.sm_bits.proofs.words.subtract.Goals as goal

pub loop-at-preserved : goal.loop-at-preserved
loop-at-preserved c =
    let at = c.loop-at.at in
    let words = c.loop-at.words in
    let others = c.args.other.now in
    let f : ℕ → ℕ → ℕ = λ x y. bit_and x (bit_not w64 y) in
    let row = zip2 bit_and (chunk at 8 words) (map (bit_not w64) (chunk at 8 others)) in
    let room : at + 8 ≤ length words = whole_row at (length words) c.loop-at-test.true c.loop-at.invariant.rows (rw c.loop-at.auto.words c.requires.rows) in
    let same : length others ≡ length words = omega arith in
    let long = length_mapped bit_and at words others room same (bit_not w64) in
    let each = each_mapped bit_and at words others room same (bit_not w64) in
    record {
      within = rw length-put_chunk room;
      rows = next_row at c.loop-at.invariant.rows;
      done = done_more f at c.args.words.now words others row room long each c.loop-at.invariant.done c.loop-at.invariant.left;
      left = left_more f at c.args.words.now words others row room long each c.loop-at.invariant.done c.loop-at.invariant.left;
    }

pub returns : goal.returns
unfolding bit
returns c = λ place inside.
    let k = place / 64 in
    let all : k < c.loop-at.at = omega arith in
    ap (λ n. eqb (bit_at n (place % 64)) 1) (c.loop-at.invariant.done k all)
    ∙ without_bit (get_or c.args.words.now k 0) (get_or c.args.other.now k 0) (place % 64) (c.type_inv.other k).fits (omega arith)
