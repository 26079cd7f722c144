use Rattle.std.proofs.Common.{length}
use Rattle.oracle_steps.proofs.reverting.+unpruned_of.Given as goal

abbrev pub decreases-unpruned_of : goal.decreases-unpruned_of
decreases-unpruned_of l = length l.snapshots.now
