use Rattle.std.proofs.Common.{length}
use Rattle.oracle_steps.proofs.opened.+all_reopened.Given as goal

abbrev pub decreases-all_reopened : goal.decreases-all_reopened
decreases-all_reopened l = length l.volumes.now
