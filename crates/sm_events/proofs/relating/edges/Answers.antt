use Rattle.std.proofs.Common.{◌≡◌, ◌==◌, false, [], List, length, ap, sym, ◌∙◌, subst, refl, Some, arith}
use Rattle.std.specs.Prelude.{slice_get}
use Rattle.std.specs.List.{list_any}
use Rattle.std.proofs.lemmas.List.{take_all}
use Rattle.std.proofs.lemmas.Option.{slice_get_read}
use Rattle.sm_catroot.specs.Catalog.{Catalog}
use Rattle.sm_defs.specs.Edges.{is_edge}
use Rattle.sm_relation.specs.declared.relation.Relation.{Relation}
use Rattle.sm_graph.specs.Links.{Link, edges_of}
use Rattle.sm_node.specs.Nodes.{world_with, stopped_relation}
use Rattle.sm_node.proofs.HoldingLemmas.{links_of, number_is_new, links_on, edges_are}
use Rattle.sm_events.proofs.relating.edges.Goals as goal

pub add_edge-requires-clause-new : goal.add_edge-requires-clause-new
add_edge-requires-clause-new g c =
    let k = c.args.catalog.now in
    let r = c.relation-item.result in
    let at = c.loop-relation.relation-index in
    let items = c.deref-relation-items.ensures.value ∙ ap (λ (x : Catalog). x.relations) c.catalog.view_is in
    let there = slice_get_read c.deref-relation-items.result.now _ at r refl c.loop-relation-test.true c.relation-item.is in
    ap (list_any (λ (l : Link). l.number == r.number.0)) c.loop-relation.invariant
    ∙ number_is_new (λ q. is_edge (world_with k c.args.seats.now []) (stopped_relation q)) k.relations at r c.requires.ascending (subst (λ (rs : List Relation). slice_get rs at ≡ Some r) items there)

pub loop-relation-preserved : goal.loop-relation-preserved
loop-relation-preserved g c =
    let k = c.args.catalog.now in
    let r = c.relation-item.result in
    let at = c.loop-relation.relation-index in
    let items = c.deref-relation-items.ensures.value ∙ ap (λ (x : Catalog). x.relations) c.catalog.view_is in
    let there = slice_get_read c.deref-relation-items.result.now _ at r refl c.loop-relation-test.true c.relation-item.is in
    links_on (λ q. is_edge (world_with k c.args.seats.now []) (stopped_relation q)) k.relations at _ r c.loop-relation.graph c.add_edge.new.graph (omega arith)
    (subst (λ (rs : List Relation). slice_get rs at ≡ Some r) items there) c.loop-relation.invariant c.in_ok-add_edge.ensures

pub returns : goal.returns
returns g c = λ lengths.
    let k = c.args.catalog.now in
    let p = is_edge (world_with k c.args.seats.now []) in
    let items = c.deref-relation-items.ensures.value ∙ ap (λ (x : Catalog). x.relations) c.catalog.view_is in
    let all = take_all c.loop-relation.relation-index k.relations (omega (arith, c.loop-relation-test.false, ap length items)) in
    sym (edges_are p k.relations)
    ∙ ap (λ (rs : List Relation). edges_of false (links_of (λ q. p (stopped_relation q)) rs)) (sym all)
    ∙ ap (edges_of false) (sym c.loop-relation.invariant)
