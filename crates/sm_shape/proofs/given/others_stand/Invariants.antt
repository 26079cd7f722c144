use Rattle.sm_shape.specs.Given.{OtherStands}
use Rattle.sm_shape.proofs.Behind.{Before}
use Rattle.sm_shape.proofs.given.others_stand.Given as goal

abbrev pub invariant-loop-place : goal.invariant-loop-place
invariant-loop-place l = Before (OtherStands l.world.policies.items l.world.relations.items l.destination l.relation l.transfer) l.volumes l.place
