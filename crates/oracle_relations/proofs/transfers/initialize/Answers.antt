use Rattle.std.proofs.Common.{sym, ◌∙◌}
use Rattle.sm_base.specs.declared.numbers.TransferKind.TheVariants.{Initialize}
use Rattle.sm_defs.specs.World.{relation_at}
use Rattle.sm_model.specs.OfTransfers as model
use Rattle.oracle_relations.proofs.Onward.{onward, initialized}
use Rattle.oracle_relations.proofs.transfers.initialize.Goals as goal

pub returns-clause-ok : goal.returns-clause-ok
returns-clause-ok c =
    let w = c.args.world.now in
    let r = relation_at w c.in-Some.t.relation in
    onward w c.resume_or_start.new.world (model.initialize w c.args.destination.now) (model.resume_or_start w c.in-Some.t.relation r Initialize r.transfer) c.resume_or_start.result
    (initialized w c.args.destination.now c.in-Some.t c.in-Some.ensures (sym c.is_writable.ensures ∙ c.if-is_writable.false) (sym c.is_bare.ensures ∙ c.if-not-is_bare.false) (sym c.is_quiesced.ensures ∙ c.if-is_quiesced.false)
    (sym c.is_running.ensures ∙ c.if-is_running.false))
    c.resume_or_start.ensures.ok
