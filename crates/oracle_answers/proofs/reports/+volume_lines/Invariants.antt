use Rattle.std.proofs.Common.{length}
use Rattle.oracle_answers.proofs.reports.+volume_lines.Given as goal

abbrev pub decreases-volume_lines : goal.decreases-volume_lines
decreases-volume_lines l = length l.volumes.now
