use Rattle.sm_model.specs.declared.reply.Reply.TheVariants as replies
use Rattle.sm_volume.specs.Assigned.{snapped}
use Rattle.sm_volume.specs.Refusals.{snapshot_refusal}
use Rattle.sm_node.specs.Moves.{IsCommitCall}
use Rattle.sm_node.proofs.MovedLemmas.{moved_at}
use Rattle.sm_node.proofs.snapping.snap_at.Goals as goal

pub returns : goal.returns
returns g c =
    let a = c.args in
    moved_at g.D.Disk.state
    (IsCommitCall g.D.Disk.state (replies.Snapped a.ident) a.disk (λ v. snapshot_refusal v a.ident a.name) (λ v. snapped v (record { ident = a.ident; name = a.name; label = a.label; time = a.time; made = 0 })) c.snap_on.result)
    a.at a.seats.now c.index-seats-at.result c.seat.inside.disk.0 c.seat.inside.volume c.snap_on.new.volume c.requires.place c.seat.view_is c.snap_on.ensures.call c.snap_on.ensures.kept
