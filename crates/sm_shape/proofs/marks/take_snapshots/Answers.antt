use Rattle.sm_shape.specs.Marks.{IsTableOf, AtOnePlace, one_map}
use Rattle.sm_shape.proofs.Tables.{table_same, one_within}
use Rattle.sm_shape.proofs.TakesSteps.{takes_none, pieces_go, pieces_stop, pieces_end}
use Rattle.sm_shape.proofs.marks.take_snapshots.Goals as goal

pub loop-snapshot-init : goal.loop-snapshot-init
loop-snapshot-init c = λ most. takes_none (IsTableOf most) (AtOnePlace most) (table_same most) (one_within most) c.args.table.now

pub returns-then-not-take_map : goal.returns-then-not-take_map
returns-then-not-take_map c = λ most.
    pieces_stop (IsTableOf most) (AtOnePlace most) (table_same most) (one_within most) one_map c.args.snapshots.now c.loop-snapshot.snapshot-index c.snapshot-item.result c.loop-snapshot-test.true c.snapshot-item.is
    c.args.table.now c.loop-snapshot.table c.take_map.new.table (c.loop-snapshot.invariant most) (rw (c.deref.ensures.value, c.if-not-take_map.true) at (c.take_map.ensures most))

pub loop-snapshot-preserved : goal.loop-snapshot-preserved
loop-snapshot-preserved c = λ most.
    pieces_go (IsTableOf most) (AtOnePlace most) (table_same most) (one_within most) one_map c.args.snapshots.now c.loop-snapshot.snapshot-index c.snapshot-item.result c.loop-snapshot-test.true c.snapshot-item.is
    c.args.table.now c.loop-snapshot.table c.take_map.new.table (c.loop-snapshot.invariant most) (rw (c.deref.ensures.value, c.if-not-take_map.false) at (c.take_map.ensures most))

pub returns : goal.returns
returns c = λ most.
    rw (← pieces_end one_map c.args.snapshots.now c.loop-snapshot.snapshot-index c.loop-snapshot-test.false) (c.loop-snapshot.invariant most)
