use Rattle.std.proofs.Common.{List, sym, ap, ◌∙◌, Ok}
use Rattle.sm_model.specs.declared.reply.Line.{Line}
use Rattle.sm_model.specs.declared.reply.Reply.TheVariants as replies
use Rattle.sm_model.specs.Answers.{Answer, told}
use Rattle.sm_model.specs.OfReport as reports
use Rattle.sm_catroot.specs.Catalog.{Catalog}
use Rattle.sm_node.specs.Seats.{Seated}
use Rattle.sm_node.specs.Nodes.{world_of, world_with}
use Rattle.sm_node.proofs.ShownLemmas.{shown}
use Rattle.sm_node.proofs.node.Node.report_head.Goals as goal

pub returns : goal.returns
returns g c =
    let now = c.args.self.now in
    let line = c.head_line-line.ensures now.lengths ∙ ap (λ (k : Catalog). reports.head_line (world_with k c.seats.result.now now.lengths)) c.catalog.ensures ∙ ap (λ (ss : List (Seated _)). reports.head_line (world_with now.root.held ss now.lengths)) c.seats.ensures in
    shown g.D.Disk.state now c.told_up.ensures (reports.head (world_of now)) _ (ap (λ (l : Line). let a : Answer = Ok (record { reply = told (replies.Line l); world = world_of now }) in a) (sym line))
