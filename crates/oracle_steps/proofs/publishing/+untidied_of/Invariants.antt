use Rattle.std.proofs.Common.{length}
use Rattle.oracle_steps.proofs.publishing.+untidied_of.Given as goal

abbrev pub decreases-untidied_of : goal.decreases-untidied_of
decreases-untidied_of l = length l.snapshots.now
