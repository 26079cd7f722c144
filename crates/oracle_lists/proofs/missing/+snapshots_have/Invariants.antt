use Rattle.std.proofs.Common.{length}
use Rattle.oracle_lists.proofs.missing.+snapshots_have.Given as goal

abbrev pub decreases-snapshots_have : goal.decreases-snapshots_have
decreases-snapshots_have l = length l.snapshots.now
