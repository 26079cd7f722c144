use Rattle.std.proofs.Common.{length}
use Rattle.oracle_lists.proofs.sending.+behind.Given as goal

abbrev pub decreases-behind : goal.decreases-behind
decreases-behind l = length l.snapshots.now
