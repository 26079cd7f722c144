use Rattle.std.proofs.Common.{refl, sym, ◌∙◌}
use Rattle.sm_defs.specs.World.{relation_at}
use Rattle.oracle_relations.proofs.Begun.{no_room, no_leg, no_number, begun}
use Rattle.oracle_relations.proofs.starting.start.Goals as goal

pub returns-in-Err-clause-ok : goal.returns-in-Err-clause-ok
returns-in-Err-clause-ok c =
    (no_room c.args.world.now c.args.at (relation_at c.args.world.now c.args.at) c.args.kind c.in_ok-legs.legs c.in-Err.refusal c.in_ok-legs.ensures (sym c.in_ok-refusal.ensures ∙ c.in-Err.is), refl)

pub returns-then-is_nothing-clause-ok : goal.returns-then-is_nothing-clause-ok
returns-then-is_nothing-clause-ok c =
    no_leg c.args.world.now c.args.at (relation_at c.args.world.now c.args.at) c.args.kind c.in_ok-legs.legs c.in_ok-legs.ensures (sym c.in_ok-refusal.ensures ∙ c.in_default.is) (sym c.is_nothing.ensures ∙ c.if-is_nothing.true)

pub returns-then-has_all_transfers-clause-ok : goal.returns-then-has_all_transfers-clause-ok
returns-then-has_all_transfers-clause-ok c = (
  no_number c.args.world.now c.args.at (relation_at c.args.world.now c.args.at) c.args.kind c.in_ok-legs.legs c.in_ok-legs.ensures (sym c.in_ok-refusal.ensures ∙ c.in_default.is) (sym c.is_nothing.ensures ∙ c.if-is_nothing.false)
      (sym c.has_all_transfers.ensures ∙ c.if-has_all_transfers.true),
  refl,
)

pub returns-clause-ok : goal.returns-clause-ok
returns-clause-ok c =
    let w = c.args.world.now in
    begun w c.args.at (relation_at w c.args.at) c.args.kind c.in_ok-legs.legs c.in_ok-legs.ensures (sym c.in_ok-refusal.ensures ∙ c.in_default.is) (sym c.is_nothing.ensures ∙ c.if-is_nothing.false)
    (sym c.has_all_transfers.ensures ∙ c.if-has_all_transfers.false) ∙
    rw (c.in_ok-count.ensures, c.next_number-number.ensures, c.in_ok-begin.ensures.ok) refl
