use Rattle.std.proofs.Common.{◌≡◌, take}
use Rattle.sm_events.proofs.tables.copy_rules.Given as goal

abbrev pub invariant-loop-rule : goal.invariant-loop-rule
invariant-loop-rule l = l.copy.items ≡ take l.rule-index l.rules
