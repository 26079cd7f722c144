use Rattle.std.proofs.Common.{[], List, map, sym, ap, ◌∙◌, Ok}
use Rattle.std.proofs.lemmas.Simd.{map-map}
use Rattle.std.proofs.lemmas.Result.{err_from_is_err_and}
use Rattle.sm_model.specs.declared.reply.Line.{Line}
use Rattle.sm_model.specs.declared.reply.Reply.TheVariants as replies
use Rattle.sm_model.specs.Answers.{Answer, told}
use Rattle.sm_model.specs.OfReport as reports
use Rattle.sm_catroot.specs.Catalog.{Catalog}
use Rattle.sm_node.specs.Seats.{Seated}
use Rattle.sm_node.specs.Nodes.{world_of, world_with, stopped_relation}
use Rattle.sm_node.proofs.Events.{none_starved}
use Rattle.sm_node.proofs.ShownLemmas.{shown}
use Rattle.sm_events.proofs.listing.show_relations.Goals as goal

pub returns-in_err-lines : goal.returns-in_err-lines
returns-in_err-lines g c =
    let now = c.args.node.now in
    let p = err_from_is_err_and c.from_residual.result c.from_residual.ensures.1 in
    none_starved g.D.Disk.state now c.told_up.ensures (reports.show_relations (world_of now)) c.from_residual.result p.0 p.1 p.2

pub returns : goal.returns
returns g c =
    let now = c.args.node.now in
    let table : Catalog → List (Seated _) → List Line = λ k seats. map (λ r. reports.relation_line (world_with k seats []) (stopped_relation r)) k.relations in
    let lines =
    c.in_ok-lines.ensures ∙ ap (λ (k : Catalog). table k c.seats.result.now) c.catalog.ensures ∙ ap (table now.root.held) c.seats.ensures
    ∙ sym (map-map (reports.relation_line (world_of now)) stopped_relation now.root.held.relations) in
    shown g.D.Disk.state now c.told_up.ensures (reports.show_relations (world_of now)) _ (ap (λ (ls : List Line). let a : Answer = Ok (record { reply = told (replies.Table ls); world = world_of now }) in a) (sym lines))
