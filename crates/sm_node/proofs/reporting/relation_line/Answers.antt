use Rattle.std.proofs.Common.{◌≡◌, length, refl, ap, ◌∙◌, subst, Some, arith}
use Rattle.std.specs.Prelude.{slice_get}
use Rattle.std.proofs.lemmas.Option.{slice_get_read}
use Rattle.sm_catroot.specs.Catalog.{Catalog}
use Rattle.sm_node.proofs.ReportLemmas.{relation_is}
use Rattle.sm_node.proofs.reporting.relation_line.Goals as goal

pub returns : goal.returns
returns g c = λ lengths.
    let is = c.catalog.view_is in
    let k = c.catalog.inside in
    let r = c.args.relation.now in
    let volumes = ap (λ (x : Catalog). length x.volumes) is in
    let policies = ap (λ (x : Catalog). length x.policies) is in
    let from = slice_get_read k.volumes.items _ r.source.0 c.index-source.result.now refl (omega (arith, c.requires.source, volumes)) c.index-source.ensures in
    let to = slice_get_read k.volumes.items _ r.destination.0 c.index-destination.result.now refl (omega (arith, c.requires.destination, volumes)) c.index-destination.ensures in
    let policy = slice_get_read k.policies.items _ r.policy c.index-policy.result.now refl (omega (arith, c.requires.policy, policies)) c.index-policy.ensures in
    relation_is c.args.catalog.now c.args.seats.now lengths r c.index-source.result.now c.index-destination.result.now c.index-policy.result.now
    c.in_ok-copy.field-0 c.in_ok-copy-2.field-0 c.in_ok-copy-3.field-0 c.condition.result c.course.result c.requires.as_many
    (subst (λ (x : Catalog). slice_get x.volumes r.source.0 ≡ Some c.index-source.result.now) is from)
    (subst (λ (x : Catalog). slice_get x.volumes r.destination.0 ≡ Some c.index-destination.result.now) is to)
    (subst (λ (x : Catalog). slice_get x.policies r.policy ≡ Some c.index-policy.result.now) is policy)
    c.in_ok-copy.ensures c.in_ok-copy-2.ensures (c.in_ok-copy-3.ensures ∙ c.name.ensures) (c.condition.ensures c.args.catalog.now lengths c.requires.as_many) c.course.ensures
