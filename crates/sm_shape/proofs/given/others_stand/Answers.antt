use Rattle.sm_shape.specs.Given.{OtherStands}
use Rattle.sm_shape.proofs.Behind.{place_stops, place_goes, place_ends}
use Rattle.sm_shape.proofs.given.others_stand.Goals as goal

pub returns-then-not-other_stands : goal.returns-then-not-other_stands
returns-then-not-other_stands c =
    place_stops (OtherStands c.args.world.now.policies.items c.args.world.now.relations.items c.args.destination.now c.args.relation.now c.args.transfer.now)
    c.args.volumes.now c.loop-place.place c.index-volumes-place.result c.loop-place-test.true c.index-volumes-place.is c.other_stands.result c.other_stands.ensures c.if-not-other_stands.true

pub loop-place-preserved : goal.loop-place-preserved
loop-place-preserved c =
    place_goes (OtherStands c.args.world.now.policies.items c.args.world.now.relations.items c.args.destination.now c.args.relation.now c.args.transfer.now)
    c.args.volumes.now c.loop-place.place c.index-volumes-place.result c.loop-place-test.true c.index-volumes-place.is c.other_stands.result c.other_stands.ensures c.if-not-other_stands.false c.loop-place.invariant

pub returns : goal.returns
returns c =
    place_ends (OtherStands c.args.world.now.policies.items c.args.world.now.relations.items c.args.destination.now c.args.relation.now c.args.transfer.now) c.args.volumes.now c.loop-place.place c.loop-place-test.false c.loop-place.invariant
