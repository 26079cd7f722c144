use Rattle.std.proofs.Common.{◌≡◌, length, subst, ℕ, arith}
use Rattle.sm_transfer.proofs.LandedLemmas.{IsCleared, cleared_all}
use Rattle.sm_transfer.proofs.landed.forget_from.Goals as goal

pub returns-clause-landed : goal.returns-clause-landed
returns-clause-landed c =
    let long = c.loop-index.invariant.long in
    let at_end : c.loop-index.index ≡ length c.loop-index.marks = omega arith in
    cleared_all c.loop-index.marks c.args.from (omega arith) (subst (λ (n : ℕ). IsCleared c.loop-index.marks c.args.from n) at_end c.loop-index.invariant.run)
