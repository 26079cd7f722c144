use Rattle.std.proofs.Common.{◌≡◌, ◌++◌, map, Some, vec_capacity}
use Rattle.std.specs.Vec.Iter.{drain_items, DrainKeeps}
use Rattle.sm_opening.proofs.seating.spare_all.Given as goal

abbrev pub invariant-loop-disk : goal.invariant-loop-disk
invariant-loop-disk g l = (goal.iterator-loop-disk g).can_next l.disk-iterator
    × (goal.iterator-loop-disk g).is_finite l.disk-iterator
    × (l.spares.items ++ map Some (drain_items l.disk-iterator) ≡ map Some (drain_items l.initial.disk-iterator))
    × (vec_capacity l.spares ≡ vec_capacity l.initial.spares)
    × DrainKeeps l.initial.disk-iterator l.disk-iterator
