use Rattle.std.proofs.Common.{length}
use Rattle.oracle_world.proofs.needs.+first_holder.Given as goal

abbrev pub decreases-first_holder : goal.decreases-first_holder
decreases-first_holder l = length l.relations.now
