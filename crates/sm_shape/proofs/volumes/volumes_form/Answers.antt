use Rattle.std.proofs.Common.{take}
use Rattle.sm_shape.specs.Forms.{VolumeFitsBehind}
use Rattle.sm_shape.proofs.Behind.{place_stops, place_goes, place_ends}
use Rattle.sm_shape.proofs.volumes.volumes_form.Goals as goal

pub returns-then-not-volume_fits : goal.returns-then-not-volume_fits
returns-then-not-volume_fits c =
    place_stops (λ k x. VolumeFitsBehind (take k c.args.volumes.now) x) c.args.volumes.now c.loop-place.place c.index-volumes-place.result c.loop-place-test.true c.index-volumes-place.is c.volume_fits.result c.volume_fits.ensures c.if-not-volume_fits.true

pub loop-place-preserved : goal.loop-place-preserved
loop-place-preserved c =
    place_goes (λ k x. VolumeFitsBehind (take k c.args.volumes.now) x) c.args.volumes.now c.loop-place.place c.index-volumes-place.result c.loop-place-test.true c.index-volumes-place.is c.volume_fits.result c.volume_fits.ensures c.if-not-volume_fits.false c.loop-place.invariant

pub returns : goal.returns
returns c = place_ends (λ k x. VolumeFitsBehind (take k c.args.volumes.now) x) c.args.volumes.now c.loop-place.place c.loop-place-test.false c.loop-place.invariant
