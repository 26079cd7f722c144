use Rattle.std.proofs.Common.{◌≡◌, length, drop}
use Rattle.sm_policy.specs.Marks.{kept_marks}
use Rattle.sm_policy.proofs.policy.Policy.fold.Given as goal

abbrev pub invariant-loop-at : goal.invariant-loop-at
invariant-loop-at l = (drop l.at l.kept.items ≡ kept_marks l.self.rules (drop l.at l.labels) (drop l.at l.needed)) × (length l.kept.items ≡ length l.labels)
