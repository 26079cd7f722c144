use Rattle.std.proofs.Common.{◌≡◌, ◌<◌, ℕ, length, map}
use Rattle.std.specs.Vec.Iter.{into_iter_items}
use Rattle.sm_defs.specs.Words.{Among}
use Rattle.sm_node.specs.Seats.{disk_number, device}
use Rattle.sm_node.specs.HandedBack.{all_put}
use Rattle.sm_node.proofs.handing.put_seats.Given as goal

abbrev pub invariant-loop-seat : goal.invariant-loop-seat
invariant-loop-seat g l = (goal.iterator-loop-seat g).can_next l.seat-iterator
    × (goal.iterator-loop-seat g).is_finite l.seat-iterator
    × (all_put l.places (map disk_number (into_iter_items l.seat-iterator)) (map device (into_iter_items l.seat-iterator))
    ≡ all_put l.initial.places (map disk_number (into_iter_items l.initial.seat-iterator)) (map device (into_iter_items l.initial.seat-iterator)))
    × ((n : ℕ) → Among (map disk_number (into_iter_items l.seat-iterator)) n → n < length l.places)
