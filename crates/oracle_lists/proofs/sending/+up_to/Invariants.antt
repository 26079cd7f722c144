use Rattle.std.proofs.Common.{length}
use Rattle.oracle_lists.proofs.sending.+up_to.Given as goal

abbrev pub decreases-up_to : goal.decreases-up_to
decreases-up_to l = length l.snapshots.now
