use Rattle.std.proofs.Common.{◌≡◌, ◌∙◌, sym, length, ℕ, ◌<◌, true, arith}
use Rattle.sm_bits.specs.Places.{has}
use Rattle.sm_transfer.proofs.LandedLemmas.{prefix_is, past_end}
use Rattle.sm_transfer.proofs.landed.end_of_landed.Goals as goal

pub returns-then-not-test-clause-value : goal.returns-then-not-test-clause-value
returns-then-not-test-clause-value c = prefix_is c.args.marks.now c.loop-index.index c.loop-index.invariant (sym c.test.ensures ∙ c.if-not-test.true)

pub returns-clause-value : goal.returns-clause-value
returns-clause-value c =
    let at_end : c.loop-index.index ≡ length c.args.marks.now = omega arith in
    let all : (k : ℕ) → k < length c.args.marks.now → has c.args.marks.now k ≡ true = λ k less. c.loop-index.invariant k (omega arith) in
    c.len.ensures ∙ prefix_is c.args.marks.now (length c.args.marks.now) all (past_end c.args.marks.now (length c.args.marks.now) (omega arith))
