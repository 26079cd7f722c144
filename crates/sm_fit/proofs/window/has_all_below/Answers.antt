use Rattle.std.proofs.Common.{◌-◌, arith}
use Rattle.sm_shape.proofs.Tests.{answered_no, answered_yes}
use Rattle.sm_fit.proofs.WindowLemmas.{below_at, at_below}
use Rattle.sm_fit.proofs.window.has_all_below.Goals as goal

pub returns-then-below-landed : goal.returns-then-below-landed
returns-then-below-landed c = answered_no (λ all.
    let last = below_at c.args.landed.now c.args.checkpoint c.requires all (c.args.checkpoint - 1) (omega (arith, c.if-below-landed.true)) in
    absurd (omega (arith, last.in_range, c.if-below-landed.true)))

pub returns-then-landed-place : goal.returns-then-landed-place
returns-then-landed-place c = answered_no (λ all.
    let here = below_at c.args.landed.now c.args.checkpoint c.requires all c.loop-place.place (omega (arith, c.loop-place-test.true)) in
    absurd (omega (arith, here.is, c.if-landed-place.true)))

pub returns : goal.returns
returns c = answered_yes (at_below c.args.landed.now c.args.checkpoint (omega (arith, c.if-below-landed.false)) (λ j lt. c.loop-place.invariant j (omega (arith, lt, c.loop-place-test.false))))
