use Rattle.std.proofs.Common.{length, ◌+◌, ◌*◌}
use Rattle.oracle_world.proofs.edges.+leads_along.Given as goal

abbrev pub decreases-leads_along : goal.decreases-leads_along
decreases-leads_along l = length l.first.now + l.more * (1 + length l.world.now.relations)
