use Rattle.std.proofs.Common.{length}
use Rattle.oracle_world.proofs.blocks.+with_tags.Given as goal

abbrev pub decreases-with_tags : goal.decreases-with_tags
decreases-with_tags l = length l.image.now
