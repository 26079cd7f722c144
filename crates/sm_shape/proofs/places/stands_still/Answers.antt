use Rattle.sm_shape.proofs.Tests.{both_are}
use Rattle.sm_shape.proofs.places.stands_still.Goals as goal

pub returns-then-same_map : goal.returns-then-same_map
returns-then-same_map c =
    both_are c.same_map.result c.has_map.result (rw (c.deref.ensures.value, c.deref-2.ensures.value) at c.same_map.ensures) c.if-same_map.true
    (rw (c.deref-then-same_map.ensures.value, c.deref-then-same_map-2.ensures.value) at c.has_map.ensures)
