use Rattle.std.proofs.Common.{length}
use Rattle.oracle_lists.proofs.dropping.+pruned.Given as goal

abbrev pub decreases-pruned : goal.decreases-pruned
decreases-pruned l = length l.destination.now
