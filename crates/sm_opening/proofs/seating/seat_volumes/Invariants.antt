use Rattle.std.proofs.Common.{◌≡◌, ◌++◌, length, vec_capacity}
use Rattle.std.specs.Vec.Iter.{into_iter_items}
use Rattle.sm_opening.specs.Seating.{AreSeated}
use Rattle.sm_opening.proofs.seating.seat_volumes.Given as goal

abbrev pub invariant-loop-found : goal.invariant-loop-found
invariant-loop-found g l = (goal.iterator-loop-found g).can_next l.found-iterator
    × (goal.iterator-loop-found g).is_finite l.found-iterator
    × (l.yielded ++ into_iter_items l.found-iterator ≡ l.fn.founds.items)
    × (vec_capacity l.seats ≡ vec_capacity l.initial.seats)
    × AreSeated g.D.Disk.state l.placed l.fn.founds.items (length l.yielded) l.fn.spares l.spares l.seats.items
