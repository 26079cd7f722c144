use Rattle.std.proofs.Common.{length}
use Rattle.oracle_answers.proofs.reports.+listed_lines.Given as goal

abbrev pub decreases-listed_lines : goal.decreases-listed_lines
decreases-listed_lines l = length l.snapshots.now
