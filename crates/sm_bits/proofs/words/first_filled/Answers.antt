use Rattle.std.proofs.Common.{◌+◌, ◌≤◌, length, inl, inr, arith}
use Rattle.std.proofs.lemmas.Bool.{cases_lt}
use Rattle.sm_bits.proofs.RowSearch.{first_in_row, passed_row}
use Rattle.sm_bits.proofs.words.first_filled.Goals as goal

pub returns-then-filled-ne0 : goal.returns-then-filled-ne0
returns-then-filled-ne0 c =
    let at = c.loop-at.at in
    let words = c.args.words.now in
    let room : at + 8 ≤ length words = omega arith in
    first_in_row words at room (omega arith) c.args.from c.loop-at.invariant.from_on c.loop-at.invariant.passed

pub loop-at-preserved : goal.loop-at-preserved
loop-at-preserved c =
    let at = c.loop-at.at in
    let words = c.args.words.now in
    let room : at + 8 ≤ length words = omega arith in
    record {
      from_on = omega arith;
      within = room;
      passed = λ k low high. elim (cases_lt k at) [
        | inl below ↦ c.loop-at.invariant.passed k low below
        | inr over ↦ passed_row words at room c.if-filled-ne0.false k over high
      ];
    }
