use Rattle.std.proofs.Common.{length}
use Rattle.oracle_answers.proofs.reports.+policy_lines.Given as goal

abbrev pub decreases-policy_lines : goal.decreases-policy_lines
decreases-policy_lines l = length l.policies.now
