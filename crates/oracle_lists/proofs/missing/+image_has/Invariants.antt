use Rattle.std.proofs.Common.{length}
use Rattle.oracle_lists.proofs.missing.+image_has.Given as goal

abbrev pub decreases-image_has : goal.decreases-image_has
decreases-image_has l = length l.image.now
