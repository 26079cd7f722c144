use Rattle.std.proofs.Common.{◌==◌, ◌||◌, ◌&&◌, sym, ap, ◌∙◌}
use Rattle.sm_defs.specs.Words.{is_ident, has_ident}
use Rattle.sm_defs.specs.Relationship.{legs_of}
use Rattle.sm_defs.specs.Edges.{mirror_edges, upstream}
use Rattle.sm_defs.specs.Needed.{needed_at_source, needed_at_destination}
use Rattle.sm_node.specs.Nodes.{stopped_relation}
use Rattle.sm_node.proofs.HoldingLemmas.{by_base, by_none, by_edges, ok_so}
use Rattle.sm_node.proofs.holding.is_needed.Goals as goal

pub returns-then-is_base_of : goal.returns-then-is_base_of
returns-then-is_base_of c = λ w e.
    let r = stopped_relation c.args.relation.now in
    by_base (needed_at_source w c.args.volume.0 c.args.ident r) (needed_at_destination w c.args.volume.0 c.args.ident r) (sym (c.is_base_of.ensures w) ∙ c.if-is_base_of.true)

pub returns-then-not-is_to_send : goal.returns-then-not-is_to_send
returns-then-not-is_to_send c = λ w e.
    let r = stopped_relation c.args.relation.now in
    by_none (r.source_half && (is_ident r.base c.args.ident || has_ident (legs_of r.transfer) c.args.ident)) ((r.source == c.args.volume.0) || upstream (mirror_edges w) c.args.volume.0 r.source) (needed_at_destination w c.args.volume.0 c.args.ident r) (sym c.is_to_send.ensures ∙ c.if-not-is_to_send.true) (sym (c.is_base_of.ensures w) ∙ c.if-is_base_of.false)

pub returns : goal.returns
returns c =
    let r = stopped_relation c.args.relation.now in
    ok_so c.would_cycle.result _ _ c.would_cycle.ensures (λ closes h w e.
    by_edges (r.source_half && (is_ident r.base c.args.ident || has_ident (legs_of r.transfer) c.args.ident)) c.args.volume.0 r.source (upstream (mirror_edges w) c.args.volume.0 r.source) (needed_at_destination w c.args.volume.0 c.args.ident r) closes (sym c.is_to_send.ensures ∙ c.if-not-is_to_send.false) (sym (c.is_base_of.ensures w) ∙ c.if-is_base_of.false)
    (h ∙ ap (λ es. (c.args.volume.0 == r.source) || upstream es c.args.volume.0 r.source) (sym e)))
