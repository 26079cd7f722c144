use Rattle.std.proofs.Common.{take}
use Rattle.sm_shape.specs.Forms.{VolumeFitsBehind}
use Rattle.sm_shape.proofs.Behind.{Before}
use Rattle.sm_shape.proofs.volumes.volumes_form.Given as goal

abbrev pub invariant-loop-place : goal.invariant-loop-place
invariant-loop-place l = Before (λ k x. VolumeFitsBehind (take k l.volumes) x) l.volumes l.place
