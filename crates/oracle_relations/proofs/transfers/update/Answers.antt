use Rattle.std.proofs.Common.{sym, ◌∙◌}
use Rattle.sm_base.specs.declared.numbers.TransferKind.TheVariants.{Update}
use Rattle.sm_defs.specs.World.{relation_at}
use Rattle.sm_model.specs.OfTransfers as model
use Rattle.oracle_relations.proofs.Onward.{onward, updated}
use Rattle.oracle_relations.proofs.transfers.update.Goals as goal

pub returns-clause-ok : goal.returns-clause-ok
returns-clause-ok c =
    let w = c.args.world.now in
    let r = relation_at w c.in-Some.t.relation in
    onward w c.resume_or_start.new.world (model.update w c.args.destination.now) (model.resume_or_start w c.in-Some.t.relation r Update r.transfer) c.resume_or_start.result
    (updated w c.args.destination.now c.in-Some.t c.in-Some.ensures (sym c.is_writable.ensures ∙ c.if-is_writable.false) (sym c.is_uninitialized.ensures ∙ c.if-is_uninitialized.false) (sym c.is_quiesced.ensures ∙ c.if-is_quiesced.false)
    (sym c.is_running.ensures ∙ c.if-is_running.false) (sym c.has_other_layout.ensures ∙ c.if-has_other_layout.false))
    c.resume_or_start.ensures.ok
