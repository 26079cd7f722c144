use Rattle.std.proofs.Common.{length}
use Rattle.oracle_lists.proofs.missing.+missing_tags.Given as goal

abbrev pub decreases-missing_tags : goal.decreases-missing_tags
decreases-missing_tags l = length l.leg.now
