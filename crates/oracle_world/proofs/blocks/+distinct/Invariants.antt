use Rattle.std.proofs.Common.{length}
use Rattle.oracle_world.proofs.blocks.+distinct.Given as goal

abbrev pub decreases-distinct : goal.decreases-distinct
decreases-distinct l = length l.tags.now
