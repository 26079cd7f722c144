use Rattle.std.proofs.Common.{length}
use Rattle.oracle_lists.proofs.dropping.+common.Given as goal

abbrev pub decreases-common : goal.decreases-common
decreases-common l = length l.destination.now
