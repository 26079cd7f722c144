use Rattle.sm_fit.specs.Shipped.{IsFreeAt}
use Rattle.sm_shape.proofs.Behind.{Before}
use Rattle.sm_fit.proofs.mirrors.map_agrees.Given as goal

abbrev pub invariant-loop-place : goal.invariant-loop-place
invariant-loop-place l = Before (IsFreeAt l.table) l.map l.place
