use Rattle.std.proofs.Common.{◌≡◌, false, true, sym, ap, ◌∙◌}
use Rattle.std.proofs.lemmas.Bool.{both_ways, not-false, not-true}
use Rattle.sm_defs.specs.Relationship.{Relationship, is_mirror}
use Rattle.sm_defs.specs.World.{policy_at}
use Rattle.sm_shape.specs.Blank.{blank}
use Rattle.sm_shape.proofs.Tests.{and_so, answered_yes}
use Rattle.sm_shape.proofs.KeptLemmas.{kept_by_rules}
use Rattle.sm_shape.proofs.kept.keeps_legs.Goals as goal

pub returns-then-not-is_vault_at : goal.returns-then-not-is_vault_at
returns-then-not-is_vault_at c =
    let at : c.args.relation.now.policy ≡ c.relation.inside.policy = ap (λ (q : Relationship). q.policy) (sym c.relation.view_is) in
    let mirror : is_mirror (policy_at (blank c.args.world.now) c.args.relation.now.policy).kind ≡ true = not-false _ (sym (rw (c.deref.ensures.value, ← at) at c.is_vault_at.ensures) ∙ c.if-not-is_vault_at.true) in
    answered_yes (λ t e vault. absurd (both_ways _ vault mirror))

pub returns : goal.returns
returns c =
    let w = blank c.args.world.now in
    let at : c.args.relation.now.policy ≡ c.relation.inside.policy = ap (λ (q : Relationship). q.policy) (sym c.relation.view_is) in
    let source : c.args.relation.now.source ≡ c.relation.inside.source.0 = ap (λ (q : Relationship). q.source) (sym c.relation.view_is) in
    let vault : is_mirror (policy_at w c.args.relation.now.policy).kind ≡ false = not-true _ (sym (rw (c.deref.ensures.value, ← at) at c.is_vault_at.ensures) ∙ c.if-not-is_vault_at.false) in
    and_so c.own_legs_fit.ensures (kept_by_rules w c.args.relation.now c.rules_at-rules.result.now c.snapshots_at-snapshots.result.now vault
    (rw (c.deref-2.ensures.value, ← at) at c.rules_at-rules.ensures) (rw (c.deref-3.ensures.value, ← source) at c.snapshots_at-snapshots.ensures))
