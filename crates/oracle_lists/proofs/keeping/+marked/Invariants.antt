use Rattle.std.proofs.Common.{length}
use Rattle.oracle_lists.proofs.keeping.+marked.Given as goal

abbrev pub decreases-marked : goal.decreases-marked
decreases-marked l = length l.marks.now
