use Rattle.std.proofs.Common.{length}
use Rattle.oracle_world.proofs.blocks.+tags_in.Given as goal

abbrev pub decreases-tags_in : goal.decreases-tags_in
decreases-tags_in l = length l.snapshots.now
