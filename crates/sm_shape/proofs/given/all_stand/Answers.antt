use Rattle.sm_shape.specs.Blank.{blank}
use Rattle.sm_shape.specs.Given.{HasFamilyStanding}
use Rattle.sm_shape.proofs.Each.{each_stops, each_goes, each_ends}
use Rattle.sm_shape.proofs.given.all_stand.Goals as goal

pub returns-then-not-stands : goal.returns-then-not-stands
returns-then-not-stands c = each_stops (HasFamilyStanding (blank c.args.world.now)) c.args.relations.now c.loop-relation.relation-index c.relation-item.result c.loop-relation-test.true c.relation-item.is c.has_family_standing-stands.result c.has_family_standing-stands.ensures c.if-not-stands.true

pub loop-relation-preserved : goal.loop-relation-preserved
loop-relation-preserved c = each_goes (HasFamilyStanding (blank c.args.world.now)) c.args.relations.now c.loop-relation.relation-index c.relation-item.result c.loop-relation-test.true c.relation-item.is c.has_family_standing-stands.result c.has_family_standing-stands.ensures c.if-not-stands.false c.loop-relation.invariant

pub returns : goal.returns
returns c = each_ends (HasFamilyStanding (blank c.args.world.now)) c.args.relations.now c.loop-relation.relation-index c.loop-relation-test.false c.loop-relation.invariant
