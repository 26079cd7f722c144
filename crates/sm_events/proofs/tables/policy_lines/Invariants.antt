use Rattle.std.proofs.Common.{◌≡◌, take, map}
use Rattle.sm_model.specs.OfReport as reports
use Rattle.sm_events.proofs.tables.policy_lines.Given as goal

abbrev pub invariant-loop-policy : goal.invariant-loop-policy
invariant-loop-policy l = l.lines.items ≡ map reports.policy_line (take l.policy-index l.policies)
