use Rattle.std.proofs.Common.{◌≡◌, take}
use Rattle.sm_catroot.proofs.catalog.copy_policies.Given as goal

abbrev pub invariant-loop-policy : goal.invariant-loop-policy
invariant-loop-policy l = l.copy.items ≡ take l.policy-index l.policies
