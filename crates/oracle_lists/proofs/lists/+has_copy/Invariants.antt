use Rattle.std.proofs.Common.{length}
use Rattle.oracle_lists.proofs.lists.+has_copy.Given as goal

abbrev pub decreases-has_copy : goal.decreases-has_copy
decreases-has_copy l = length l.snapshots.now
