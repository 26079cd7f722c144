use Rattle.sm_shape.specs.Blank.{blank}
use Rattle.sm_shape.proofs.Each.{each_stops, each_goes, each_ends}
use Rattle.sm_fit.specs.Shipped.{OwnLegsFit}
use Rattle.sm_fit.proofs.legs.all_legs_fit.Goals as goal

pub returns-then-not-fits : goal.returns-then-not-fits
returns-then-not-fits c = each_stops (OwnLegsFit (blank c.args.world.now)) c.args.relations.now c.loop-relation.relation-index c.relation-item.result c.loop-relation-test.true c.relation-item.is c.in_ok-fits.fits c.in_ok-fits.ensures c.if-not-fits.true

pub loop-relation-preserved : goal.loop-relation-preserved
loop-relation-preserved c = each_goes (OwnLegsFit (blank c.args.world.now)) c.args.relations.now c.loop-relation.relation-index c.relation-item.result c.loop-relation-test.true c.relation-item.is c.in_ok-fits.fits c.in_ok-fits.ensures c.if-not-fits.false c.loop-relation.invariant

pub returns : goal.returns
returns c = each_ends (OwnLegsFit (blank c.args.world.now)) c.args.relations.now c.loop-relation.relation-index c.loop-relation-test.false c.loop-relation.invariant
