use Rattle.std.proofs.Common.{length}
use Rattle.oracle_lists.proofs.sending.+idents_of.Given as goal

abbrev pub decreases-idents_of : goal.decreases-idents_of
decreases-idents_of l = length l.snapshots.now
