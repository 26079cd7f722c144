use Rattle.std.proofs.Common.{◌≡◌, subst, ℕ, arith}
use Rattle.sm_transfer.proofs.LandedLemmas.{IsRun, run_ends}
use Rattle.sm_transfer.proofs.landed.land_below.Goals as goal

pub returns-clause-landed : goal.returns-clause-landed
returns-clause-landed c =
    let at_end : c.loop-index.index ≡ c.args.end = omega arith in
    run_ends c.loop-index.marks c.args.end (omega arith) (subst (λ (n : ℕ). IsRun c.loop-index.marks n) at_end c.loop-index.invariant.run)
