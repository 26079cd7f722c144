use Rattle.std.proofs.Common.{length}
use Rattle.oracle_lists.proofs.missing.+place.Given as goal

abbrev pub decreases-place : goal.decreases-place
decreases-place l = length l.tags.now
