use Rattle.std.proofs.Common.{length}
use Rattle.oracle_lists.proofs.sending.+classed_idents.Given as goal

abbrev pub decreases-classed_idents : goal.decreases-classed_idents
decreases-classed_idents l = length l.snapshots.now
