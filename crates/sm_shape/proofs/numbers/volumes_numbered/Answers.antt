use Rattle.sm_model.specs.declared.world.World.{World}
use Rattle.sm_model.specs.declared.world.WorldVolume.{WorldVolume}
use Rattle.sm_shape.specs.Numbers.{AreNumbered}
use Rattle.sm_shape.proofs.Each.{each_stops, each_goes, each_ends}
use Rattle.sm_shape.proofs.numbers.volumes_numbered.Goals as goal

abbrev P : World → WorldVolume → Type 0
P w v = AreNumbered w v.snapshots.items

pub returns-then-not-stand : goal.returns-then-not-stand
returns-then-not-stand c = each_stops (P c.args.world.now) c.args.volumes.now c.loop-volume.volume-index c.volume-item.result c.loop-volume-test.true c.volume-item.is c.in_ok-stand.stand (rw c.deref.ensures.value at c.in_ok-stand.ensures) c.if-not-stand.true

pub loop-volume-preserved : goal.loop-volume-preserved
loop-volume-preserved c = each_goes (P c.args.world.now) c.args.volumes.now c.loop-volume.volume-index c.volume-item.result c.loop-volume-test.true c.volume-item.is c.in_ok-stand.stand (rw c.deref.ensures.value at c.in_ok-stand.ensures) c.if-not-stand.false c.loop-volume.invariant

pub returns : goal.returns
returns c = each_ends (P c.args.world.now) c.args.volumes.now c.loop-volume.volume-index c.loop-volume-test.false c.loop-volume.invariant
