use Rattle.std.proofs.Common.{take}
use Rattle.sm_shape.specs.Forms.{RelationFitsBehind}
use Rattle.sm_shape.proofs.Behind.{place_stops, place_goes, place_ends}
use Rattle.sm_shape.proofs.relations.relations_form.Goals as goal

pub returns-then-not-relation_fits : goal.returns-then-not-relation_fits
returns-then-not-relation_fits c =
    place_stops (λ k x. RelationFitsBehind (take k c.args.relations.now) x) c.args.relations.now c.loop-place.place c.index-relations-place.result c.loop-place-test.true c.index-relations-place.is c.relation_fits.result c.relation_fits.ensures c.if-not-relation_fits.true

pub loop-place-preserved : goal.loop-place-preserved
loop-place-preserved c =
    place_goes (λ k x. RelationFitsBehind (take k c.args.relations.now) x) c.args.relations.now c.loop-place.place c.index-relations-place.result c.loop-place-test.true c.index-relations-place.is c.relation_fits.result c.relation_fits.ensures c.if-not-relation_fits.false c.loop-place.invariant

pub returns : goal.returns
returns c = place_ends (λ k x. RelationFitsBehind (take k c.args.relations.now) x) c.args.relations.now c.loop-place.place c.loop-place-test.false c.loop-place.invariant
