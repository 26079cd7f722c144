use Rattle.std.proofs.Common.{[], ◌∷◌}
use Rattle.sm_model.specs.declared.reply.Reply.TheVariants as replies
use Rattle.sm_defs.specs.Operations.{removed}
use Rattle.sm_volume.specs.Refusals.{remove_refusal}
use Rattle.sm_node.specs.Moves.{IsCommitCall}
use Rattle.sm_node.proofs.MovedLemmas.{moved_at}
use Rattle.sm_node.proofs.removing.remove_at.Goals as goal

pub returns : goal.returns
returns g c =
    let a = c.args in
    moved_at g.D.Disk.state
    (IsCommitCall g.D.Disk.state replies.Done a.disk (λ v. remove_refusal v (a.ident ∷ [])) (λ v. removed v (a.ident ∷ [])) c.remove_on.result)
    a.at a.seats.now c.index-seats-at.result c.seat.inside.disk.0 c.seat.inside.volume c.remove_on.new.volume c.requires.place c.seat.view_is c.remove_on.ensures.call c.remove_on.ensures.kept
