use Rattle.std.proofs.Common.{length}
use Rattle.oracle_lists.proofs.landing.+landed_from.Given as goal

abbrev pub decreases-landed_from : goal.decreases-landed_from
decreases-landed_from l = length l.leg.now
