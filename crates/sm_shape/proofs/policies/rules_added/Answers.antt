use Rattle.std.proofs.Common.{take}
use Rattle.sm_shape.specs.Forms.{AddedAt}
use Rattle.sm_shape.proofs.Behind.{place_stops, place_goes, place_ends}
use Rattle.sm_shape.proofs.policies.rules_added.Goals as goal

pub returns-then-not-is_added : goal.returns-then-not-is_added
returns-then-not-is_added c =
    place_stops (λ k r. AddedAt c.args.kind c.args.from k (take k c.args.rules.now) r) c.args.rules.now c.loop-place.place c.index-rules-place.result c.loop-place-test.true c.index-rules-place.is c.is_added.result c.is_added.ensures c.if-not-is_added.true

pub loop-place-preserved : goal.loop-place-preserved
loop-place-preserved c =
    place_goes (λ k r. AddedAt c.args.kind c.args.from k (take k c.args.rules.now) r) c.args.rules.now c.loop-place.place c.index-rules-place.result c.loop-place-test.true c.index-rules-place.is c.is_added.result c.is_added.ensures c.if-not-is_added.false c.loop-place.invariant

pub returns : goal.returns
returns c = place_ends (λ k r. AddedAt c.args.kind c.args.from k (take k c.args.rules.now) r) c.args.rules.now c.loop-place.place c.loop-place-test.false c.loop-place.invariant
