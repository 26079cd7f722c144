use Rattle.std.proofs.Common.{◌≡◌, take}
use Rattle.sm_opening.proofs.worlds.world_policies.Given as goal

abbrev pub invariant-loop-policy : goal.invariant-loop-policy
invariant-loop-policy l = l.list.items ≡ take l.policy-index l.policies
