use Rattle.std.proofs.Common.{sym, ap, ◌∙◌}
use Rattle.sm_defs.specs.Relationship.{Relationship, is_mirror}
use Rattle.sm_defs.specs.World.{volume_at, relation_at, policy_at}
use Rattle.oracle_relations.proofs.Holding.{spared, tested}
use Rattle.oracle_relations.proofs.transfers.test_reverted.Goals as goal

pub returns-then-not-is_mirror_of : goal.returns-then-not-is_mirror_of
returns-then-not-is_mirror_of c =
    let w = c.args.world.now in
    let e = ap (λ (r : Relationship). is_mirror (policy_at w r.policy).kind) (sym c.relation.ensures) ∙ (sym c.is_mirror_of.ensures ∙ c.if-not-is_mirror_of.true) in
    spared w (relation_at w c.args.at) c.args.base (volume_at w c.args.destination).snapshots e

pub returns : goal.returns
returns c =
    let w = c.args.world.now in
    let e = ap (λ (r : Relationship). is_mirror (policy_at w r.policy).kind) (sym c.relation.ensures) ∙ (sym c.is_mirror_of.ensures ∙ c.if-not-is_mirror_of.false) in
    c.test_past.ensures ∙ tested w (relation_at w c.args.at) c.args.base (volume_at w c.args.destination).snapshots c.past_base.result.now e c.past_base.ensures
