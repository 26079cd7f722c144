use Rattle.std.proofs.Common.{length}
use Rattle.sm_report.proofs.reply_text.+lines_of_table.Given as goal

abbrev pub decreases-lines_of_table : goal.decreases-lines_of_table
decreases-lines_of_table l = length l.lines.now
