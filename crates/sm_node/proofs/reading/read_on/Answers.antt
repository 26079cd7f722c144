use Rattle.std.proofs.Common.{sym, ap, ◌∙◌}
use Rattle.sm_model.specs.declared.reply.Reply.TheVariants as replies
use Rattle.sm_volume.specs.Refusals.{read_refusal}
use Rattle.sm_node.specs.Moves.{fault_answer}
use Rattle.sm_node.specs.Looking.{answer_with}
use Rattle.sm_node.proofs.ReadLemmas.{refused_with, no_value, reads_by}
use Rattle.sm_node.proofs.reading.read_on.Goals as goal

pub returns-in-Err-clause-call : goal.returns-in-Err-clause-call
returns-in-Err-clause-call g c =
    let state = g.D.Disk.state in
    let e = c.read-done.ensures in
    record {
      done = c.read-done.result;
      block = c.args.block;
      is = c.answer_of.ensures ∙ ap (λ k. fault_answer c.args.disk k c.in-Err.fault) c.faults.ensures ∙ sym (ap (answer_with (λ _. replies.Bytes c.args.block) c.args.disk (state c.read-done.new.self.disk).faults) c.in-Err.is);
      refused = refused_with (read_refusal c.args.volume.now.volume c.args.view c.args.place) c.read-done.result e.refused;
      reads = reads_by state c.args.volume.now c.read-done.new.self c.read-done.result e.ok e.fault e.counted e.unchanged e.quiet e.time;
      read = no_value c.read-done.result c.in-Err.fault _ c.in-Err.is;
    }
