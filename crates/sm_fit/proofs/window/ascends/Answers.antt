use Rattle.std.proofs.Common.{◌≡◌, ◌<◌, ◌-◌, suc, get_or, subst, arith}
use Rattle.sm_shape.proofs.Tests.{answered_no, answered_yes}
use Rattle.sm_fit.proofs.WindowLemmas.{steps_ascend, ascend_steps}
use Rattle.sm_fit.proofs.window.ascends.Goals as goal

pub returns-then-landed-place : goal.returns-then-landed-place
returns-then-landed-place c = answered_no (λ asc.
    let ns = c.args.landed.now in
    let k = c.loop-place.place in
    let next : suc (k - 1) ≡ k = omega (arith, c.loop-place.auto.place) in
    let less = ascend_steps ns asc (k - 1) (omega (arith, next, c.loop-place-test.true)) in
    let step : get_or ns (k - 1) 0 < get_or ns k 0 = subst (λ n. get_or ns (k - 1) 0 < get_or ns n 0) next less in
    absurd (omega (arith, step, c.if-landed-place.true)))

pub returns : goal.returns
returns c = answered_yes (steps_ascend c.args.landed.now (λ j lt. c.loop-place.invariant j (omega (arith, lt, c.loop-place-test.false))))
