use Rattle.std.proofs.Common.{length}
use Rattle.oracle_steps.proofs.progress.+insert_landed.Given as goal

abbrev pub decreases-insert_landed : goal.decreases-insert_landed
decreases-insert_landed l = length l.landed.now
