use Rattle.std.proofs.Common.{◌≤◌}
use Rattle.tests_steps.proofs.moving.landed.Given as goal

abbrev pub invariant-loop-index : goal.invariant-loop-index
invariant-loop-index l = l.count ≤ l.index
