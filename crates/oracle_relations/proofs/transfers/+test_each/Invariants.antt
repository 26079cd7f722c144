use Rattle.std.proofs.Common.{length}
use Rattle.oracle_relations.proofs.transfers.+test_each.Given as goal

abbrev pub decreases-test_each : goal.decreases-test_each
decreases-test_each l = length l.snapshots.now
