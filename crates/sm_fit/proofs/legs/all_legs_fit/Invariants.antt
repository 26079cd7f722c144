use Rattle.std.proofs.Common.{take}
use Rattle.sm_defs.specs.Words.{Among}
use Rattle.sm_defs.specs.Relationship.{Relationship}
use Rattle.sm_shape.specs.Blank.{blank}
use Rattle.sm_fit.specs.Shipped.{OwnLegsFit}
use Rattle.sm_fit.proofs.legs.all_legs_fit.Given as goal

abbrev pub invariant-loop-relation : goal.invariant-loop-relation
invariant-loop-relation l = (r : Relationship) → Among (take l.relation-index l.relations) r → OwnLegsFit (blank l.world) r
