use Rattle.std.proofs.Common.{take}
use Rattle.sm_shape.specs.Forms.{AddedAt}
use Rattle.sm_shape.proofs.Behind.{Before}
use Rattle.sm_shape.proofs.policies.rules_added.Given as goal

abbrev pub invariant-loop-place : goal.invariant-loop-place
invariant-loop-place l = Before (λ k r. AddedAt l.kind l.from k (take k l.rules) r) l.rules l.place
