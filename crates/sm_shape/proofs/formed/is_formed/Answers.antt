use Rattle.sm_shape.proofs.Tests.{first_fails}
use Rattle.sm_shape.proofs.FormedLaw.{formed_of, counts_of, counters_of, volumes_of, policies_of, relations_of}
use Rattle.sm_shape.proofs.formed.is_formed.Goals as goal

pub returns-then-not-counts_form : goal.returns-then-not-counts_form
returns-then-not-counts_form c = first_fails c.counts_form.result c.if-not-counts_form.true (rw (c.deref.ensures.value, c.deref-2.ensures.value, c.deref-3.ensures.value) at c.counts_form.ensures) (counts_of c.args.world.now)

pub returns-then-not-counters_form : goal.returns-then-not-counters_form
returns-then-not-counters_form c = first_fails c.counters_form.result c.if-not-counters_form.true c.counters_form.ensures (counters_of c.args.world.now)

pub returns-then-not-volumes_form : goal.returns-then-not-volumes_form
returns-then-not-volumes_form c = first_fails c.volumes_form.result c.if-not-volumes_form.true (rw c.deref-4.ensures.value at c.volumes_form.ensures) (volumes_of c.args.world.now)

pub returns-then-not-policies_form : goal.returns-then-not-policies_form
returns-then-not-policies_form c = first_fails c.policies_form.result c.if-not-policies_form.true (rw c.deref-5.ensures.value at c.policies_form.ensures) (policies_of c.args.world.now)

pub returns : goal.returns
returns c =
    let w = c.args.world.now in
    let counts = (rw (c.deref.ensures.value, c.deref-2.ensures.value, c.deref-3.ensures.value) at c.counts_form.ensures).0 c.if-not-counts_form.false in
    let counters = c.counters_form.ensures.0 c.if-not-counters_form.false in
    let volumes = (rw c.deref-4.ensures.value at c.volumes_form.ensures).0 c.if-not-volumes_form.false in
    let policies = (rw c.deref-5.ensures.value at c.policies_form.ensures).0 c.if-not-policies_form.false in
    let test = rw c.deref-6.ensures.value at c.relations_form.ensures in (
      λ e. formed_of w (record { counts = counts; counters = counters; volumes = volumes; policies = policies; relations = test.0 e }),
      λ f. test.1 (relations_of w f),
    )
