use Rattle.std.proofs.Common.{◌≡◌, ap, refl, Ok, Err}
use Rattle.std.proofs.lemmas.Result.{err_from_is_err_and}
use Rattle.sm_model.specs.declared.reply.Reply.TheVariants as replies
use Rattle.sm_node.specs.Served.{first_of}
use Rattle.sm_node.proofs.Events.{none_acts, none_starved}
use Rattle.sm_node.proofs.LookActs.{copied_acts}
use Rattle.sm_events.specs.Deciding.{answer_by}
use Rattle.sm_events.proofs.deciding.settle.Goals as goal

pub returns-in_err-ready-in-Ok-clause-acts : goal.returns-in_err-ready-in-Ok-clause-acts
returns-in_err-ready-in-Ok-clause-acts g c =
    let p = err_from_is_err_and c.from_residual.result c.from_residual.ensures.1 in
    none_starved g.D.Disk.state c.args.node.now c.told_up.ensures (answer_by c.args.node.now c.args.reply c.args.decided) (first_of c.from_residual.result) p.0 (ap first_of p.1) p.2

pub returns-in-Err-clause-acts : goal.returns-in-Err-clause-acts
returns-in-Err-clause-acts g c =
    let n = c.args.node.now in
    let a = answer_by n c.args.reply c.args.decided in
    let is : a ≡ Err c.in-Err.refusal = ap (answer_by n c.args.reply) c.in-Err.is in
    copied_acts g.D.Disk.state n c.told_up.ensures a (Ok (replies.Refused c.in-Err.refusal)) c.copied.result c.copied.ensures.first
    (none_acts g.D.Disk.state n c.told_up.ensures a c.in-Err.refusal (replies.Refused c.in-Err.refusal) refl is)
