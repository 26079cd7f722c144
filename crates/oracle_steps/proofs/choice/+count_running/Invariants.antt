use Rattle.std.proofs.Common.{length}
use Rattle.oracle_steps.proofs.choice.+count_running.Given as goal

abbrev pub decreases-count_running : goal.decreases-count_running
decreases-count_running l = length l.relations.now
