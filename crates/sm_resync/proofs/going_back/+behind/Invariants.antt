use Rattle.std.proofs.Common.{length}
use Rattle.sm_resync.proofs.going_back.+behind.Given as goal

abbrev pub decreases-behind : goal.decreases-behind
decreases-behind l = length l.snapshots.now
