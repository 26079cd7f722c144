use Rattle.std.proofs.Common.{arith}
use Rattle.tests_steps.proofs.ReadyLemmas.{told_by_sets}
use Rattle.tests_steps.proofs.beginning.stands_by_snapshots.Goals as goal

pub returns : goal.returns
returns g c = λ yes_is. told_by_sets c.held-held.result.now c.space-space.result.now c.args.volume.now.volume c.told.ensures.images c.held-held.ensures c.space-space.ensures (λ k one less. c.loop-number.invariant k one (omega arith))
