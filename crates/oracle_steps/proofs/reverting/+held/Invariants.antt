use Rattle.std.proofs.Common.{length}
use Rattle.oracle_steps.proofs.reverting.+held.Given as goal

abbrev pub decreases-held : goal.decreases-held
decreases-held l = length l.snapshots.now
