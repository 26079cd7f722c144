use Rattle.std.proofs.Common.{List, length, sym, ap, ◌∙◌, Ok, arith}
use Rattle.sm_node.proofs.PlacedLemmas.{all_long}
use Rattle.std.proofs.lemmas.Result.{err_from_is_err_and}
use Rattle.sm_model.specs.declared.reply.Line.{Line}
use Rattle.sm_model.specs.declared.reply.Reply.TheVariants as replies
use Rattle.sm_model.specs.Answers.{Answer, told}
use Rattle.sm_model.specs.OfReport as reports
use Rattle.sm_defs.specs.World.{Up, volume_at}
use Rattle.sm_catroot.specs.Catalog.{Catalog}
use Rattle.sm_node.specs.Seats.{Seated}
use Rattle.sm_node.specs.Nodes.{world_of, world_with}
use Rattle.sm_node.proofs.Events.{none_starved}
use Rattle.sm_node.proofs.ShownLemmas.{shown}
use Rattle.sm_node.proofs.node.Node.report_volume.Goals as goal

pub returns-in_err-line : goal.returns-in_err-line
returns-in_err-line g c =
    let now = c.args.self.now in
    let p = err_from_is_err_and c.from_residual.result c.from_residual.ensures.1 in
    none_starved g.D.Disk.state now c.told_up.ensures (reports.of_volume (world_of now) c.args.number) c.from_residual.result p.0 p.1 p.2

pub returns : goal.returns
returns g c =
    let now = c.args.self.now in
    let line = c.in_ok-line.ensures now.lengths ∙ ap (λ (k : Catalog). (λ (w : Up). reports.volume_line c.args.number (volume_at w c.args.number.0)) (world_with k c.seats.result.now now.lengths)) c.catalog.ensures ∙ ap (λ (ss : List (Seated _)). (λ (w : Up). reports.volume_line c.args.number (volume_at w c.args.number.0)) (world_with now.root.held ss now.lengths)) c.seats.ensures in
    shown g.D.Disk.state now c.told_up.ensures (reports.of_volume (world_of now) c.args.number) _ (ap (λ (l : Line). let a : Answer = Ok (record { reply = told (replies.Line l); world = world_of now }) in a) (sym line))

pub volume_line_at-requires-clause-there : goal.volume_line_at-requires-clause-there
volume_line_at-requires-clause-there g c =
    let now = c.args.self.now in
    let up = c.requires.up in
    omega (arith, c.requires.there, all_long now.root.held.volumes now.seats up.as_many, up.as_many, ap length c.seats.ensures)
