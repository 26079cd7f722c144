use Rattle.sm_model.specs.TagsFit.{TagsFitIn}
use Rattle.sm_model.specs.declared.world.WorldVolume.{WorldVolume}
use Rattle.sm_shape.specs.Blank.{blank_volume}
use Rattle.sm_shape.proofs.Each.{each_stops, each_goes, each_ends}
use Rattle.sm_shape.proofs.tags.volumes_fit.Goals as goal

abbrev P : WorldVolume → Type 0
P v = TagsFitIn (blank_volume v)

pub returns-then-not-fit : goal.returns-then-not-fit
returns-then-not-fit c = each_stops P c.args.volumes.now c.loop-volume.volume-index c.volume-item.result c.loop-volume-test.true c.volume-item.is c.in_ok-fit.fit c.in_ok-fit.ensures c.if-not-fit.true

pub loop-volume-preserved : goal.loop-volume-preserved
loop-volume-preserved c = each_goes P c.args.volumes.now c.loop-volume.volume-index c.volume-item.result c.loop-volume-test.true c.volume-item.is c.in_ok-fit.fit c.in_ok-fit.ensures c.if-not-fit.false c.loop-volume.invariant

pub returns : goal.returns
returns c = each_ends P c.args.volumes.now c.loop-volume.volume-index c.loop-volume-test.false c.loop-volume.invariant
