use Rattle.sm_model.specs.NumbersStand.{NumberStands}
use Rattle.sm_model.specs.declared.world.World.{World}
use Rattle.sm_model.specs.declared.world.WorldSnapshot.{WorldSnapshot}
use Rattle.sm_shape.specs.Blank.{blank, blank_snapshot}
use Rattle.sm_shape.proofs.Each.{each_stops, each_goes, each_ends}
use Rattle.sm_shape.proofs.numbers.snapshots_numbered.Goals as goal

abbrev P : World → WorldSnapshot → Type 0
P w s = NumberStands (blank w) (blank_snapshot s)

pub returns-then-not-stands : goal.returns-then-not-stands
returns-then-not-stands c = each_stops (P c.args.world.now) c.args.snapshots.now c.loop-snapshot.snapshot-index c.snapshot-item.result c.loop-snapshot-test.true c.snapshot-item.is c.in_ok-stands.stands c.in_ok-stands.ensures c.if-not-stands.true

pub loop-snapshot-preserved : goal.loop-snapshot-preserved
loop-snapshot-preserved c = each_goes (P c.args.world.now) c.args.snapshots.now c.loop-snapshot.snapshot-index c.snapshot-item.result c.loop-snapshot-test.true c.snapshot-item.is c.in_ok-stands.stands c.in_ok-stands.ensures c.if-not-stands.false c.loop-snapshot.invariant

pub returns : goal.returns
returns c = each_ends (P c.args.world.now) c.args.snapshots.now c.loop-snapshot.snapshot-index c.loop-snapshot-test.false c.loop-snapshot.invariant
