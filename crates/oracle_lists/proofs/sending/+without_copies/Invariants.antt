use Rattle.std.proofs.Common.{length}
use Rattle.oracle_lists.proofs.sending.+without_copies.Given as goal

abbrev pub decreases-without_copies : goal.decreases-without_copies
decreases-without_copies l = length l.snapshots.now
