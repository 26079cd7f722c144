use Rattle.std.proofs.Common.{take}
use Rattle.sm_shape.specs.Forms.{PolicyFitsBehind}
use Rattle.sm_shape.proofs.Behind.{place_stops, place_goes, place_ends}
use Rattle.sm_shape.proofs.policies.policies_form.Goals as goal

pub returns-then-not-policy_fits : goal.returns-then-not-policy_fits
returns-then-not-policy_fits c =
    place_stops (λ k x. PolicyFitsBehind (take k c.args.policies.now) x) c.args.policies.now c.loop-place.place c.index-policies-place.result c.loop-place-test.true c.index-policies-place.is c.policy_fits.result c.policy_fits.ensures c.if-not-policy_fits.true

pub loop-place-preserved : goal.loop-place-preserved
loop-place-preserved c =
    place_goes (λ k x. PolicyFitsBehind (take k c.args.policies.now) x) c.args.policies.now c.loop-place.place c.index-policies-place.result c.loop-place-test.true c.index-policies-place.is c.policy_fits.result c.policy_fits.ensures c.if-not-policy_fits.false c.loop-place.invariant

pub returns : goal.returns
returns c = place_ends (λ k x. PolicyFitsBehind (take k c.args.policies.now) x) c.args.policies.now c.loop-place.place c.loop-place-test.false c.loop-place.invariant
