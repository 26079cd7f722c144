use Rattle.std.proofs.Common.{length}
use Rattle.oracle_steps.proofs.opened.+all_rejoined.Given as goal

abbrev pub decreases-all_rejoined : goal.decreases-all_rejoined
decreases-all_rejoined l = length l.relations.now
