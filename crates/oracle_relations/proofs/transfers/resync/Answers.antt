use Rattle.std.proofs.Common.{sym, ◌∙◌}
use Rattle.sm_defs.specs.World.{relation_at}
use Rattle.sm_model.specs.OfTransfers as model
use Rattle.oracle_relations.proofs.Onward.{onward, resynced}
use Rattle.oracle_relations.proofs.transfers.resync.Goals as goal

pub returns-clause-ok : goal.returns-clause-ok
returns-clause-ok c =
    let w = c.args.world.now in
    let r = relation_at w c.in-Some.t.relation in
    onward w _ (model.resync w c.args.destination.now) (model.resync_from w c.in-Some.t.relation r c.in-Some-newest_common.base c.deref.result.now) c.resync_from.result
    (resynced w c.args.destination.now c.in-Some.t c.in-Some-newest_common.base c.deref.result.now c.in-Some.ensures (sym c.is_writable.ensures ∙ c.if-not-is_writable.false)
    (sym c.is_running.ensures ∙ c.if-is_running.false) (sym c.has_other_layout.ensures ∙ c.if-has_other_layout.false) (sym c.closes_walk.ensures ∙ c.if-closes_walk.false)
    c.in-Some-newest_common.ensures (sym c.test_reverted.ensures ∙ c.in_default-test_reverted.is) (c.deref.ensures.value ∙ c.in_ok-left.ensures))
    c.resync_from.ensures.ok
