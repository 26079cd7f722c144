use Rattle.std.proofs.Common.{length}
use Rattle.oracle_answers.proofs.reports.+relation_lines.Given as goal

abbrev pub decreases-relation_lines : goal.decreases-relation_lines
decreases-relation_lines l = length l.relations.now
