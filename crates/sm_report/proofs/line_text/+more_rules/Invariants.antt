use Rattle.std.proofs.Common.{length}
use Rattle.sm_report.proofs.line_text.+more_rules.Given as goal

abbrev pub decreases-more_rules : goal.decreases-more_rules
decreases-more_rules l = length l.rules.now
