use Rattle.std.proofs.Common.{◌∷◌, [], false}
use Rattle.std.specs.List.{flat_map}
use Rattle.sm_shape.specs.Marks.{IsTableOf, AtOnePlace, one_map}
use Rattle.sm_shape.proofs.Tables.{table_same, one_within}
use Rattle.sm_shape.proofs.TakesSteps.{takes_then, takes_fail}
use Rattle.sm_shape.proofs.marks.take_volume.Goals as goal

pub returns-then-not-take_map : goal.returns-then-not-take_map
returns-then-not-take_map c = λ most.
    let v = c.args.volume.now in
    takes_fail (IsTableOf most) (AtOnePlace most) (table_same most) (one_within most) c.args.table.now c.take_map.new.table (v.active.items ∷ []) (v.stable.items ∷ flat_map one_map v.snapshots.items)
    (rw (c.deref.ensures.value, c.if-not-take_map.true) at (c.take_map.ensures most))

pub returns-then-not-take_map-2 : goal.returns-then-not-take_map-2
returns-then-not-take_map-2 c = λ most.
    let v = c.args.volume.now in
    let first = rw (c.deref.ensures.value, c.if-not-take_map.false) at (c.take_map.ensures most) in
    let second = rw (c.deref-2.ensures.value, c.if-not-take_map-2.true) at (c.take_map-2.ensures most) in
    let fails = takes_fail (IsTableOf most) (AtOnePlace most) (table_same most) (one_within most) c.take_map.new.table c.take_map-2.new.table (v.stable.items ∷ []) (flat_map one_map v.snapshots.items) second in
    takes_then (IsTableOf most) (AtOnePlace most) (table_same most) (one_within most) c.args.table.now c.take_map.new.table c.take_map-2.new.table (v.active.items ∷ []) (v.stable.items ∷ flat_map one_map v.snapshots.items) false first fails

pub returns : goal.returns
returns c = λ most.
    let v = c.args.volume.now in
    let first = rw (c.deref.ensures.value, c.if-not-take_map.false) at (c.take_map.ensures most) in
    let second = rw (c.deref-2.ensures.value, c.if-not-take_map-2.false) at (c.take_map-2.ensures most) in
    let third = rw c.deref-3.ensures.value at (c.take_snapshots.ensures most) in
    let behind = takes_then (IsTableOf most) (AtOnePlace most) (table_same most) (one_within most) c.take_map.new.table c.take_map-2.new.table c.take_snapshots.new.table (v.stable.items ∷ []) (flat_map one_map v.snapshots.items) c.take_snapshots.result second third in
    takes_then (IsTableOf most) (AtOnePlace most) (table_same most) (one_within most) c.args.table.now c.take_map.new.table c.take_snapshots.new.table (v.active.items ∷ []) (v.stable.items ∷ flat_map one_map v.snapshots.items) c.take_snapshots.result first behind
