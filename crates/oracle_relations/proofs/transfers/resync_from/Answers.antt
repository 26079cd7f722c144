use Rattle.std.proofs.Common.{refl, sym, ◌∙◌}
use Rattle.sm_defs.specs.World.{relation_at}
use Rattle.oracle_relations.proofs.Begun.{no_room_again, no_number_again, begun_again}
use Rattle.oracle_relations.proofs.transfers.resync_from.Goals as goal

pub returns-in-Err-clause-ok : goal.returns-in-Err-clause-ok
returns-in-Err-clause-ok c =
    (no_room_again c.args.world.now c.args.at (relation_at c.args.world.now c.args.at) c.args.base c.args.left.now c.in_ok-legs.legs c.in-Err.refusal c.in_ok-legs.ensures (sym c.in_ok-refusal.ensures ∙ c.in-Err.is), refl)

pub returns-then-has_all_transfers-clause-ok : goal.returns-then-has_all_transfers-clause-ok
returns-then-has_all_transfers-clause-ok c = (
  no_number_again c.args.world.now c.args.at (relation_at c.args.world.now c.args.at) c.args.base c.args.left.now c.in_ok-legs.legs c.in_ok-legs.ensures (sym c.in_ok-refusal.ensures ∙ c.in_default.is)
      (sym c.has_all_transfers.ensures ∙ c.if-has_all_transfers.true),
  refl,
)

pub returns-clause-ok : goal.returns-clause-ok
returns-clause-ok c =
    begun_again c.args.world.now c.args.at (relation_at c.args.world.now c.args.at) c.args.base c.args.left.now c.in_ok-legs.legs c.in_ok-legs.ensures (sym c.in_ok-refusal.ensures ∙ c.in_default.is)
    (sym c.has_all_transfers.ensures ∙ c.if-has_all_transfers.false) ∙
    rw (c.in_ok-count.ensures, c.next_number-number.ensures, c.in_ok-begin_resync.ensures.ok) refl
