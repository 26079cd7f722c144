use Rattle.std.proofs.Common.{take}
use Rattle.sm_shape.specs.Forms.{RelationFitsBehind}
use Rattle.sm_shape.proofs.Behind.{Before}
use Rattle.sm_shape.proofs.relations.relations_form.Given as goal

abbrev pub invariant-loop-place : goal.invariant-loop-place
invariant-loop-place l = Before (λ k x. RelationFitsBehind (take k l.relations) x) l.relations l.place
