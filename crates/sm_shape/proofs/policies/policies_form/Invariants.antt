use Rattle.std.proofs.Common.{take}
use Rattle.sm_shape.specs.Forms.{PolicyFitsBehind}
use Rattle.sm_shape.proofs.Behind.{Before}
use Rattle.sm_shape.proofs.policies.policies_form.Given as goal

abbrev pub invariant-loop-place : goal.invariant-loop-place
invariant-loop-place l = Before (λ k x. PolicyFitsBehind (take k l.policies) x) l.policies l.place
