use Rattle.std.proofs.Common.{◌≡◌, ◌++◌, take}
use Rattle.std.specs.List.{flat_map}
use Rattle.sm_catroot.specs.Spelling.{rule_digits}
use Rattle.sm_catroot.proofs.writing.write_rules.Given as goal

abbrev pub invariant-loop-rule : goal.invariant-loop-rule
invariant-loop-rule l = l.writer ≡ l.fn.writer ++ flat_map rule_digits (take l.rule-index l.rules)
