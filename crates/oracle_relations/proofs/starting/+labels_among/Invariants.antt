use Rattle.std.proofs.Common.{length}
use Rattle.oracle_relations.proofs.starting.+labels_among.Given as goal

abbrev pub decreases-labels_among : goal.decreases-labels_among
decreases-labels_among l = length l.snapshots.now
