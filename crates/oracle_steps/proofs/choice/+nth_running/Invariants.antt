use Rattle.std.proofs.Common.{length}
use Rattle.oracle_steps.proofs.choice.+nth_running.Given as goal

abbrev pub decreases-nth_running : goal.decreases-nth_running
decreases-nth_running l = length l.relations.now
