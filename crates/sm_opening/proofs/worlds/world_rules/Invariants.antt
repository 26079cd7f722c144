use Rattle.std.proofs.Common.{◌≡◌, take}
use Rattle.sm_opening.proofs.worlds.world_rules.Given as goal

abbrev pub invariant-loop-rule : goal.invariant-loop-rule
invariant-loop-rule l = l.list.items ≡ take l.rule-index l.rules
