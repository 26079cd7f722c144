use Rattle.std.proofs.Common.{length}
use Rattle.oracle_steps.proofs.shipping.+with_ident.Given as goal

abbrev pub decreases-with_ident : goal.decreases-with_ident
decreases-with_ident l = length l.snapshots.now
