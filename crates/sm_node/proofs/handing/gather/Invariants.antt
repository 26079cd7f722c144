use Rattle.std.proofs.Common.{◌≡◌, ◌++◌, map, Some, vec_capacity}
use Rattle.std.specs.Vec.Iter.{into_iter_items}
use Rattle.sm_node.proofs.handing.gather.Given as goal

abbrev pub invariant-loop-place : goal.invariant-loop-place
invariant-loop-place g l = (goal.iterator-loop-place g).can_next l.place-iterator
    × (goal.iterator-loop-place g).is_finite l.place-iterator
    × (map Some l.disks.items ++ into_iter_items l.place-iterator ≡ into_iter_items l.initial.place-iterator)
    × (vec_capacity l.disks ≡ vec_capacity l.initial.disks)
