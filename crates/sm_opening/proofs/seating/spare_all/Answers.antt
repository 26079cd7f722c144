use Rattle.std.proofs.Common.{length, map, Some, ap, arith}
use Rattle.std.specs.Vec.Iter.{drain_items}
use Rattle.std.proofs.lemmas.List.{length-append, length-map}
use Rattle.std.proofs.lemmas.Grind.{common_steps}
use Rattle.sm_opening.proofs.seating.spare_all.Goals as goal

pub push_reserved-requires : goal.push_reserved-requires
push_reserved-requires g c =
    let whole = ap length c.loop-disk.invariant.2 in
    let front = length-append c.loop-disk.spares.items (map Some (drain_items c.loop-disk.disk-iterator)) in
    let rest = length-map (drain_items c.loop-disk.disk-iterator) Some in
    let next = ap length c.in-Some.ensures.steps.0 in
    let all = length-map (drain_items c.drain-disk-items.result) Some in
    let same = ap length c.drain-disk-items.ensures.rest in
    grind (arith, common_steps, whole, front, rest, next, all, same, c.loop-disk.spares.ok, c.loop-disk.invariant.3, c.requires.room)
