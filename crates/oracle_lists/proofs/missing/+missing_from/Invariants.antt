use Rattle.std.proofs.Common.{length}
use Rattle.oracle_lists.proofs.missing.+missing_from.Given as goal

abbrev pub decreases-missing_from : goal.decreases-missing_from
decreases-missing_from l = length l.leg.now
