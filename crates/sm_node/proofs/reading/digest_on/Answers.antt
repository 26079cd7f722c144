use Rattle.std.proofs.Common.{◌≡◌, Result, Err, sym, ap, ◌∙◌}
use Rattle.std.proofs.lemmas.Result.{IfErr-at_err}
use Rattle.sm_model.specs.declared.reply.Reply.{Reply}
use Rattle.sm_model.specs.declared.reply.Reply.TheVariants as replies
use Rattle.volume_store.specs.declared.faults.VolumeFault.TheVariants.{DiskFault}
use Rattle.sm_node.specs.declared.fault.NodeFault.{NodeFault}
use Rattle.sm_node.specs.declared.fault.NodeFault.TheVariants.{Down}
use Rattle.sm_node.specs.Moves.{fault_answer}
use Rattle.sm_node.specs.Looking.{answer_with, with_digest}
use Rattle.sm_node.proofs.ReadLemmas.{no_value}
use Rattle.sm_node.proofs.reading.digest_on.Goals as goal

pub returns-in-Err-clause-call : goal.returns-in-Err-clause-call
unfolding fault_answer
returns-in-Err-clause-call g c =
    let count = (g.D.Disk.state c.digest_of-done.new.volume.disk).faults in
    let e = c.digest_of-done.ensures in
    let failed : c.digest_of-done.result ≡ Err DiskFault = IfErr-at_err _ c.in-Err.is e.refused in
    record {
      done = c.digest_of-done.result;
      is = ap (λ k. let r : Result Reply NodeFault = Err (Down c.args.disk k) in r) c.faults.ensures ∙ sym (ap (answer_with (λ d. replies.Line (with_digest c.args.lines.0 d)) c.args.disk count) failed);
      refused = e.refused;
      reads = e.reads;
      digested = no_value c.digest_of-done.result DiskFault _ failed;
    }
