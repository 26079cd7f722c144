use Rattle.std.proofs.Common.{◌≡◌, ◌∷◌, ◌++◌, [], List, length, map, refl, ap, ◌∙◌, subst, Some, arith}
use Rattle.std.specs.Prelude.{slice_get}
use Rattle.std.proofs.lemmas.List.{take_all}
use Rattle.std.proofs.lemmas.Option.{slice_get_read}
use Rattle.sm_defs.proofs.Members.{among_map, get_among}
use Rattle.sm_model.specs.OfReport.{relation_line}
use Rattle.sm_relation.specs.declared.relation.Relation.{Relation}
use Rattle.sm_catroot.specs.Catalog.{Catalog}
use Rattle.sm_node.specs.Nodes.{world_with, stopped_relation}
use Rattle.sm_node.proofs.PlacedLemmas.{all_long}
use Rattle.sm_events.proofs.Listed.{lines_on}
use Rattle.sm_events.proofs.listing.relation_lines.Goals as goal

pub relation_line-requires-clause-source : goal.relation_line-requires-clause-source
relation_line-requires-clause-source g c =
    let k = c.args.catalog.now in
    let r = c.relation-item.result in
    let at = c.loop-relation.relation-index in
    let items = c.deref-relation-items.ensures.value ∙ ap (λ (x : Catalog). x.relations) c.catalog.view_is in
    let there = subst (λ (rs : List Relation). slice_get rs at ≡ Some r) items (slice_get_read c.deref-relation-items.result.now _ at r refl c.loop-relation-test.true c.relation-item.is) in
    let lies = c.requires.within (stopped_relation r) (among_map stopped_relation k.relations r (get_among k.relations at r there)) in
    omega (arith, lies.source, all_long k.volumes c.args.seats.now c.requires.places)

pub relation_line-requires-clause-destination : goal.relation_line-requires-clause-destination
relation_line-requires-clause-destination g c =
    let k = c.args.catalog.now in
    let r = c.relation-item.result in
    let at = c.loop-relation.relation-index in
    let items = c.deref-relation-items.ensures.value ∙ ap (λ (x : Catalog). x.relations) c.catalog.view_is in
    let there = subst (λ (rs : List Relation). slice_get rs at ≡ Some r) items (slice_get_read c.deref-relation-items.result.now _ at r refl c.loop-relation-test.true c.relation-item.is) in
    let lies = c.requires.within (stopped_relation r) (among_map stopped_relation k.relations r (get_among k.relations at r there)) in
    omega (arith, lies.destination, all_long k.volumes c.args.seats.now c.requires.places)

pub relation_line-requires-clause-policy : goal.relation_line-requires-clause-policy
relation_line-requires-clause-policy g c =
    let k = c.args.catalog.now in
    let r = c.relation-item.result in
    let at = c.loop-relation.relation-index in
    let items = c.deref-relation-items.ensures.value ∙ ap (λ (x : Catalog). x.relations) c.catalog.view_is in
    let there = subst (λ (rs : List Relation). slice_get rs at ≡ Some r) items (slice_get_read c.deref-relation-items.result.now _ at r refl c.loop-relation-test.true c.relation-item.is) in
    (c.requires.within (stopped_relation r) (among_map stopped_relation k.relations r (get_among k.relations at r there))).policy

pub loop-relation-preserved : goal.loop-relation-preserved
loop-relation-preserved g c =
    let k = c.args.catalog.now in
    let r = c.relation-item.result in
    let at = c.loop-relation.relation-index in
    let items = c.deref-relation-items.ensures.value ∙ ap (λ (x : Catalog). x.relations) c.catalog.view_is in
    let there = subst (λ (rs : List Relation). slice_get rs at ≡ Some r) items (slice_get_read c.deref-relation-items.result.now _ at r refl c.loop-relation-test.true c.relation-item.is) in
    lines_on (λ q. relation_line (world_with k c.args.seats.now []) (stopped_relation q)) k.relations at _ r c.loop-relation.lines.items c.push.new.self.items refl there c.loop-relation.invariant
    (c.in_ok-push.ensures.items ∙ ap (λ l. c.loop-relation.lines.items ++ l ∷ []) (c.in_ok-relation_line.ensures []))

pub returns : goal.returns
returns g c =
    let k = c.args.catalog.now in
    let items = c.deref-relation-items.ensures.value ∙ ap (λ (x : Catalog). x.relations) c.catalog.view_is in
    let all = take_all c.loop-relation.relation-index k.relations (omega (arith, c.loop-relation-test.false, ap length items)) in
    c.loop-relation.invariant ∙ ap (map (λ q. relation_line (world_with k c.args.seats.now []) (stopped_relation q))) all
