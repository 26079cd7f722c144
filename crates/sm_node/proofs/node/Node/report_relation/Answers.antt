use Rattle.std.proofs.Common.{List, sym, ap, ◌∙◌, Ok}
use Rattle.std.proofs.lemmas.Result.{err_from_is_err_and}
use Rattle.sm_model.specs.declared.reply.Line.{Line}
use Rattle.sm_model.specs.declared.reply.Reply.TheVariants as replies
use Rattle.sm_model.specs.Answers.{Answer, told}
use Rattle.sm_model.specs.OfReport as reports
use Rattle.sm_defs.specs.World.{Up}
use Rattle.sm_catroot.specs.Catalog.{Catalog}
use Rattle.sm_node.specs.Seats.{Seated}
use Rattle.sm_node.specs.Nodes.{world_of, world_with}
use Rattle.sm_node.proofs.Events.{none_starved}
use Rattle.sm_node.proofs.ShownLemmas.{shown}
use Rattle.sm_node.proofs.node.Node.report_relation.Goals as goal

pub returns-in_err-line : goal.returns-in_err-line
returns-in_err-line g c =
    let now = c.args.self.now in
    let p = err_from_is_err_and c.from_residual.result c.from_residual.ensures.1 in
    none_starved g.D.Disk.state now c.told_up.ensures (reports.of_relation (world_of now) c.args.number) c.from_residual.result p.0 p.1 p.2

pub returns : goal.returns
returns g c =
    let now = c.args.self.now in
    let line = c.in_ok-line.ensures now.lengths ∙ ap (λ (k : Catalog). (λ (w : Up). reports.relation_line w (reports.numbered w c.args.number)) (world_with k c.seats.result.now now.lengths)) c.catalog.ensures ∙ ap (λ (ss : List (Seated _)). (λ (w : Up). reports.relation_line w (reports.numbered w c.args.number)) (world_with now.root.held ss now.lengths)) c.seats.ensures in
    shown g.D.Disk.state now c.told_up.ensures (reports.of_relation (world_of now) c.args.number) _ (ap (λ (l : Line). let a : Answer = Ok (record { reply = told (replies.Line l); world = world_of now }) in a) (sym line))
