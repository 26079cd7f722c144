use Rattle.std.proofs.Common.{length}
use Rattle.oracle_world.proofs.edges.+count_walked.Given as goal

abbrev pub decreases-count_walked : goal.decreases-count_walked
decreases-count_walked l = length l.relations.now
