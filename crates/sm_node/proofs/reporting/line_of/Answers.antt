use Rattle.std.proofs.Common.{◌≡◌, ◌==◌, position, get_or, ap, sym, ◌∙◌, refl, subst, arith}
use Rattle.sm_catroot.specs.Catalog.{Catalog}
use Rattle.sm_relation.specs.declared.relation.Relation.{Relation}
use Rattle.sm_model.specs.OfReport as reports
use Rattle.sm_defs.proofs.Members.{among_map, get_among}
use Rattle.sm_node.specs.Nodes.{stopped_relation, world_with}
use Rattle.sm_node.proofs.PlacedLemmas.{all_long}
use Rattle.sm_node.proofs.HoldingLemmas.{ok_so}
use Rattle.sm_node.proofs.ReportLemmas.{relation_at_place, relation_stands, relation_missing}
use Rattle.sm_node.proofs.reporting.line_of.Goals as goal

pub unreachable-requires : goal.unreachable-requires
unreachable-requires g c =
    let rs = c.args.catalog.now.relations in
    let number = c.args.number.0 in
    let items = c.deref.ensures.value ∙ ap (λ (x : Catalog). x.relations) c.catalog.view_is in
    let none = ap (position (λ (q : Relation). q.number.0 == number)) (sym items) ∙ sym c.place_of.ensures ∙ c.in_default.is in
    let there = c.requires.there in
    relation_missing number rs none there.0 there.1 there.2

pub relation_line-requires-clause-source : goal.relation_line-requires-clause-source
relation_line-requires-clause-source g c =
    let rs = c.args.catalog.now.relations in
    let number = c.args.number.0 in
    let r = c.index.result.now in
    let items = c.deref.ensures.value ∙ ap (λ (x : Catalog). x.relations) c.catalog.view_is in
    let found = ap (position (λ (q : Relation). q.number.0 == number)) (sym items) ∙ sym c.place_of.ensures ∙ c.in-Some.is in
    let is = subst (λ (x : Catalog). r ≡ get_or x.relations c.in-Some.at r) c.catalog.view_is c.index.ensures in
    let there = relation_stands number rs c.in-Some.at r found is in
    let lies = c.requires.within (stopped_relation r) (among_map stopped_relation rs r (get_among rs c.in-Some.at r there)) in
    omega (arith, lies.source, all_long c.args.catalog.now.volumes c.args.seats.now c.requires.as_many)

pub relation_line-requires-clause-destination : goal.relation_line-requires-clause-destination
relation_line-requires-clause-destination g c =
    let rs = c.args.catalog.now.relations in
    let number = c.args.number.0 in
    let r = c.index.result.now in
    let items = c.deref.ensures.value ∙ ap (λ (x : Catalog). x.relations) c.catalog.view_is in
    let found = ap (position (λ (q : Relation). q.number.0 == number)) (sym items) ∙ sym c.place_of.ensures ∙ c.in-Some.is in
    let is = subst (λ (x : Catalog). r ≡ get_or x.relations c.in-Some.at r) c.catalog.view_is c.index.ensures in
    let there = relation_stands number rs c.in-Some.at r found is in
    let lies = c.requires.within (stopped_relation r) (among_map stopped_relation rs r (get_among rs c.in-Some.at r there)) in
    omega (arith, lies.destination, all_long c.args.catalog.now.volumes c.args.seats.now c.requires.as_many)

pub relation_line-requires-clause-policy : goal.relation_line-requires-clause-policy
relation_line-requires-clause-policy g c =
    let rs = c.args.catalog.now.relations in
    let number = c.args.number.0 in
    let r = c.index.result.now in
    let items = c.deref.ensures.value ∙ ap (λ (x : Catalog). x.relations) c.catalog.view_is in
    let found = ap (position (λ (q : Relation). q.number.0 == number)) (sym items) ∙ sym c.place_of.ensures ∙ c.in-Some.is in
    let is = subst (λ (x : Catalog). r ≡ get_or x.relations c.in-Some.at r) c.catalog.view_is c.index.ensures in
    let there = relation_stands number rs c.in-Some.at r found is in
    (c.requires.within (stopped_relation r) (among_map stopped_relation rs r (get_among rs c.in-Some.at r there))).policy

pub returns : goal.returns
returns g c =
    let k = c.args.catalog.now in
    let number = c.args.number.0 in
    let r = c.index.result.now in
    let items = c.deref.ensures.value ∙ ap (λ (x : Catalog). x.relations) c.catalog.view_is in
    let found = ap (position (λ (q : Relation). q.number.0 == number)) (sym items) ∙ sym c.place_of.ensures ∙ c.in-Some.is in
    let is = subst (λ (x : Catalog). r ≡ get_or x.relations c.in-Some.at r) c.catalog.view_is c.index.ensures in
    let there = relation_stands number k.relations c.in-Some.at r found is in
    ok_so c.relation_line.result _ _ c.relation_line.ensures (λ line e lengths.
    let w = world_with k c.args.seats.now lengths in
    e lengths ∙ ap (reports.relation_line w) (sym (relation_at_place number k.relations w refl c.in-Some.at r found there)))
