use Rattle.std.proofs.Common.{◌≡◌, ◌-◌, arith, sym, ◌∙◌, ap, List}
use Rattle.sm_defs.specs.Relationship.{Relationship}
use Rattle.sm_defs.specs.World.{Up}
use Rattle.oracle_world.specs.Walks.{any_leads}
use Rattle.oracle_world.proofs.WalkLemmas.{last_leads}
use Rattle.oracle_world.proofs.edges.+leads_along.Goals as goal

pub returns-else-more-eq0 : goal.returns-else-more-eq0
returns-else-more-eq0 t c =
    let w = c.args.world.now in
    let to_it : c.leads_along-in-len1-up.result ≡ any_leads c.args.edges w (c.args.more - 1) c.relation.inside.destination.0 c.args.to w.relations =
    c.leads_along-in-len1-up.ensures ∙ ap (λ (rs : List Relationship). any_leads c.args.edges w (c.args.more - 1) c.relation.inside.destination.0 c.args.to rs) (c.deref.ensures.value ∙ ap (λ (u : Up). u.relations) c.world.view_is) in
    let there : c.relation.inside.destination.0 ≡ c.relation-item.result.destination = ap (λ (r : Relationship). r.destination) c.relation.view_is in
    let from_it : c.relation-item.result.source ≡ c.args.from = sym (ap (λ (r : Relationship). r.source) c.relation.view_is) ∙ c.if-relation-from.false in
    to_it ∙ ap (λ n. any_leads c.args.edges w (c.args.more - 1) n c.args.to w.relations) there ∙
    last_leads c.args.edges w c.args.more (c.args.more - 1) c.args.from c.args.to c.args.first.now c.relation-item.result
    (omega arith) c.in-len1-up.len_at_least c.relation-item.is (sym c.leads_along.ensures ∙ c.if-leads_along.false) (sym c.is_walked.ensures ∙ c.if-not-is_walked.false) from_it (λ e. omega arith)
