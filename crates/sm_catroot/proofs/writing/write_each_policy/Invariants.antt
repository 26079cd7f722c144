use Rattle.std.proofs.Common.{◌≡◌, ◌++◌, take}
use Rattle.std.specs.List.{flat_map}
use Rattle.sm_catroot.specs.Spelling.{policy_digits}
use Rattle.sm_catroot.proofs.writing.write_each_policy.Given as goal

abbrev pub invariant-loop-policy : goal.invariant-loop-policy
invariant-loop-policy l = l.writer ≡ l.fn.writer ++ flat_map policy_digits (take l.policy-index l.policies)
