use Rattle.std.proofs.Common.{ℕ, ◌+◌, ◌*◌, ◌≤◌, ◌<◌, ◌^◌, length, w64, arith, Fits}
use Rattle.std.specs.Simd.Lanes.{chunk}
use Rattle.sm_bits.proofs.Rows.{whole_row, next_row}
use Rattle.sm_bits.proofs.RowCount.{added, row_counted, rows_counted}
use Rattle.sm_bits.proofs.words.count.Goals as goal

fits_total : (total at all row : ℕ) → total ≤ 64 * at → row ≤ 512 → at + 8 ≤ all → all < 2 ^ 32 → Fits w64 (total + row)
fits_total total at all row small few room short = record { fits = omega arith }

pub overflow_add-total : goal.overflow_add-total
overflow_add-total c =
    let words = c.args.words.now in
    let at = c.loop-at.at in
    let room : at + 8 ≤ length words = whole_row at (length words) c.loop-at-test.true c.loop-at.invariant.rows c.requires.rows in
    fits_total c.loop-at.total at (length words) (added (chunk at 8 words)) c.loop-at.invariant.small (row_counted words at room c.type_inv.words).0 room c.requires.short

pub loop-at-preserved : goal.loop-at-preserved
loop-at-preserved c =
    let words = c.args.words.now in
    let at = c.loop-at.at in
    let room : at + 8 ≤ length words = whole_row at (length words) c.loop-at-test.true c.loop-at.invariant.rows c.requires.rows in
    let few = (row_counted words at room c.type_inv.words).0 in
    record {
      within = room;
      rows = next_row at c.loop-at.invariant.rows;
      small = omega (arith, few);
      done = rows_counted words at room c.type_inv.words c.loop-at.total c.loop-at.invariant.done;
    }

pub returns-clause-fits : goal.returns-clause-fits
returns-clause-fits c = λ k. (c.type_inv.words k).fits
