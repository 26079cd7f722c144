use Rattle.std.proofs.Common.{[], sym, ◌∙◌, arith}
use Rattle.sm_node.specs.Nodes.{world_with}
use Rattle.sm_events.proofs.RelatingDecided.{test_refuses, test_allows}
use Rattle.sm_events.proofs.RelationsFit.{test_room, not_full}
use Rattle.sm_events.proofs.relating.decide_at.Goals as goal

pub with_new_relation-requires : goal.with_new_relation-requires
with_new_relation-requires g c =
    let k = c.args.catalog.now in
    let w = world_with k c.args.seats.now [] in
    let other = (not_full k (test_room k w c.args.source c.args.destination c.args.policy c.in-Ok.field-0 (sym c.in_ok-refusal.ensures ∙ c.in-Ok.is))).1 in
    let most = c.requires.fits.next_relation.1 in
    record { room = omega (arith, other, most) }

pub returns-in-Err : goal.returns-in-Err
returns-in-Err g c =
    test_refuses c.args.catalog.now (world_with c.args.catalog.now c.args.seats.now []) c.args.source c.args.destination c.args.policy c.in_ok-refusal.field-0 c.in-Err.refusal c.in_ok-refusal.ensures c.in-Err.is

pub returns-in_ok-with_new_relation-in-Ok : goal.returns-in_ok-with_new_relation-in-Ok
returns-in_ok-with_new_relation-in-Ok g c =
    test_allows c.args.catalog.now (world_with c.args.catalog.now c.args.seats.now []) c.args.source c.args.destination c.args.policy c.in_ok-refusal.field-0 c.in-Ok.field-0 c.in_ok-with_new_relation-in-Ok.field-0
    c.in_ok-refusal.ensures c.in-Ok.is c.in_ok-with_new_relation-in-Ok.ensures
