use Rattle.std.proofs.Common.{◌≡◌, true, false, sym, ap, ◌∙◌}
use Rattle.std.proofs.lemmas.Bool.{both_ways, not-false, not-true}
use Rattle.sm_defs.specs.Relationship.{Relationship, Transfer, is_mirror}
use Rattle.sm_defs.specs.World.{policy_at}
use Rattle.sm_shape.specs.Blank.{blank}
use Rattle.sm_shape.proofs.Tests.{answered_yes}
use Rattle.sm_shape.proofs.GivenLemmas.{others_have}
use Rattle.sm_shape.proofs.given.family_stands.Goals as goal

pub returns-then-not-is_vault_at : goal.returns-then-not-is_vault_at
returns-then-not-is_vault_at c =
    let at : c.args.relation.now.policy ≡ c.relation.inside.policy = ap (λ (q : Relationship). q.policy) (sym c.relation.view_is) in
    let mirror : is_mirror (policy_at (blank c.args.world.now) c.args.relation.now.policy).kind ≡ true = not-false _ (sym (rw (c.deref.ensures.value, ← at) at c.is_vault_at.ensures) ∙ c.if-not-is_vault_at.true) in
    answered_yes (record { stands = λ vault. absurd (both_ways _ vault mirror) })

pub returns-then-not-is_own : goal.returns-then-not-is_own
returns-then-not-is_own c =
    let w = c.args.world.now in
    let at : c.args.relation.now.policy ≡ c.relation.inside.policy = ap (λ (q : Relationship). q.policy) (sym c.relation.view_is) in
    let to : c.args.relation.now.destination ≡ c.relation.inside.destination.0 = ap (λ (q : Relationship). q.destination) (sym c.relation.view_is) in
    let number_is : c.args.transfer.now.number ≡ c.transfer.inside.number = ap (λ (q : Transfer). q.number) (sym c.transfer.view_is) in
    let number = c.args.transfer.now.number in
    let vault : is_mirror (policy_at (blank w) c.args.relation.now.policy).kind ≡ false = not-true _ (sym (rw (c.deref.ensures.value, ← at) at c.is_vault_at.ensures) ∙ c.if-not-is_vault_at.false) in
    let own_test = rw (← number_is) at c.is_own.ensures in
    let family = rw (c.deref-2.ensures.value, ← to) at c.family_at-family.ensures in
    let test = rw (c.deref-then-not-is_own.ensures.value, ← number_is) at c.all_have_other.ensures in (
      λ e. record { stands = λ _. (λ _. (others_have w number).0 (test.0 e), λ same. absurd (both_ways c.is_own.result c.if-not-is_own.true (own_test.1 (family ∙ same)))) },
      λ all. test.1 ((others_have w number).1 ((all.stands vault).0 (λ same. both_ways c.is_own.result c.if-not-is_own.true (own_test.1 (family ∙ same))))),
    )

pub returns : goal.returns
returns c =
    let w = c.args.world.now in
    let at : c.args.relation.now.policy ≡ c.relation.inside.policy = ap (λ (q : Relationship). q.policy) (sym c.relation.view_is) in
    let to : c.args.relation.now.destination ≡ c.relation.inside.destination.0 = ap (λ (q : Relationship). q.destination) (sym c.relation.view_is) in
    let number_is : c.args.transfer.now.number ≡ c.transfer.inside.number = ap (λ (q : Transfer). q.number) (sym c.transfer.view_is) in
    let vault : is_mirror (policy_at (blank w) c.args.relation.now.policy).kind ≡ false = not-true _ (sym (rw (c.deref.ensures.value, ← at) at c.is_vault_at.ensures) ∙ c.if-not-is_vault_at.false) in
    let own_test = rw (← number_is) at c.is_own.ensures in
    let family = rw (c.deref-2.ensures.value, ← to) at c.family_at-family.ensures in
    let own = sym family ∙ own_test.0 c.if-not-is_own.false in (
      λ e. record { stands = λ _. (λ other. absurd (other own), λ _. c.in_own_family.ensures.0 e) },
      λ all. c.in_own_family.ensures.1 ((all.stands vault).1 own),
    )
