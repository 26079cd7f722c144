use Rattle.std.proofs.Common.{◌≡◌, sym, ap, ◌∙◌}
use Rattle.sm_defs.specs.Relationship.{Relationship, Transfer}
use Rattle.std.proofs.lemmas.Bool.{both_ways}
use Rattle.sm_shape.proofs.Tests.{answered_no, first_fails}
use Rattle.sm_shape.proofs.GivenLemmas.{source_has, has_source, alone_of, apart_of, others_of}
use Rattle.sm_shape.proofs.given.in_own_family.Goals as goal

pub returns-then-is_own : goal.returns-then-is_own
returns-then-is_own c =
    let from : c.args.relation.now.source ≡ c.relation.inside.source.0 = ap (λ (q : Relationship). q.source) (sym c.relation.view_is) in
    let number_is : c.args.transfer.now.number ≡ c.transfer.inside.number = ap (λ (q : Transfer). q.number) (sym c.transfer.view_is) in
    let family = rw (c.deref.ensures.value, ← from) at c.family_at-family.ensures in
    answered_no (λ f. f.source_elsewhere (sym family ∙ (rw (← number_is) at c.is_own.ensures).0 c.if-is_own.true))

pub returns-then-not-has_base_or_first : goal.returns-then-not-has_base_or_first
returns-then-not-has_base_or_first c =
    let w = c.args.world.now in
    let from : c.args.relation.now.source ≡ c.relation.inside.source.0 = ap (λ (q : Relationship). q.source) (sym c.relation.view_is) in
    let base_is : c.args.relation.now.base ≡ c.relation.inside.base = ap (λ (q : Relationship). q.base) (sym c.relation.view_is) in
    let legs_are : c.args.transfer.now.legs ≡ c.transfer.inside.legs.items = ap (λ (q : Transfer). q.legs) (sym c.transfer.view_is) in
    let source = rw (c.deref-2.ensures.value, ← from) at c.snapshots_at-source.ensures in
    first_fails c.has_base_or_first.result c.if-not-has_base_or_first.true (rw (c.deref-3.ensures.value, ← base_is, ← legs_are) at c.has_base_or_first.ensures)
    (λ f. has_source w c.args.relation.now c.args.transfer.now c.snapshots_at-source.result.now source f.source_has)

pub returns : goal.returns
returns c =
    let w = c.args.world.now in
    let r = c.args.relation.now in
    let t = c.args.transfer.now in
    let from : c.args.relation.now.source ≡ c.relation.inside.source.0 = ap (λ (q : Relationship). q.source) (sym c.relation.view_is) in
    let to : c.args.relation.now.destination ≡ c.relation.inside.destination.0 = ap (λ (q : Relationship). q.destination) (sym c.relation.view_is) in
    let base_is : c.args.relation.now.base ≡ c.relation.inside.base = ap (λ (q : Relationship). q.base) (sym c.relation.view_is) in
    let number_is : c.args.transfer.now.number ≡ c.transfer.inside.number = ap (λ (q : Transfer). q.number) (sym c.transfer.view_is) in
    let legs_are : c.args.transfer.now.legs ≡ c.transfer.inside.legs.items = ap (λ (q : Transfer). q.legs) (sym c.transfer.view_is) in
    let family = rw (c.deref.ensures.value, ← from) at c.family_at-family.ensures in
    let source = rw (c.deref-2.ensures.value, ← from) at c.snapshots_at-source.ensures in
    let destination = rw (c.deref-4.ensures.value, ← to) at c.snapshots_at-destination.ensures in
    let first = (rw (c.deref-3.ensures.value, ← base_is, ← legs_are) at c.has_base_or_first.ensures).0 c.if-not-has_base_or_first.false in
    let test = rw c.deref-5.ensures.value at c.others_stand.ensures in (
      λ e. record {
        source_elsewhere = λ same. both_ways c.is_own.result c.if-is_own.false ((rw (← number_is) at c.is_own.ensures).1 (family ∙ same));
        source_has = source_has w r t c.snapshots_at-source.result.now source first;
        legs_alone = alone_of w r t c.snapshots_at-destination.result.now destination (test.0 e);
        others = apart_of w r t c.snapshots_at-destination.result.now destination (test.0 e);
      },
      λ f. test.1 (others_of w r t c.snapshots_at-destination.result.now destination f.legs_alone f.others),
    )
