use Rattle.std.proofs.Common.{length}
use Rattle.oracle_relations.proofs.transfers.+other_holder.Given as goal

abbrev pub decreases-other_holder : goal.decreases-other_holder
decreases-other_holder l = length l.relations.now
