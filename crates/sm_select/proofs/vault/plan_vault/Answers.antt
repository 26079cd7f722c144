use Rattle.std.proofs.Common.{◌∙◌, refl, arith}
use Rattle.sm_select.specs.Planned.{members}
use Rattle.sm_select.proofs.MemberLemmas.{as_many_members}
use Rattle.sm_select.proofs.PlanLemmas.{cost_of, vault_planned}
use Rattle.sm_select.proofs.vault.plan_vault.Goals as goal

pub returns-then-free-need-clause-full : goal.returns-then-free-need-clause-full
returns-then-free-need-clause-full c leg bases same from more =
    let need = c.count-need.ensures.is ∙ cost_of c.args.target.now c.args.base_source.now leg bases same from in
    rw (need, c.free-free.ensures) refl

pub arranged_on-requires-clause-room : goal.arranged_on-requires-clause-room
arranged_on-requires-clause-room c =
    let many = as_many_members c.args.space.now in
    let need = c.count-need.ensures.is in
    let free = c.free-free.ensures in
    let most = c.if-free-need.false in omega (arith, many, need, free, most)

pub returns-in-Ok-clause-missing : goal.returns-in-Ok-clause-missing
returns-in-Ok-clause-missing c = vault_planned c.args.target.now c.args.base_source.now c.args.base_destination.now (members c.args.space.now) c.in-Ok.plan c.in-Ok.ensures

pub returns-in-Ok-clause-room : goal.returns-in-Ok-clause-room
returns-in-Ok-clause-room c leg bases same from =
    let need = c.count-need.ensures.is ∙ cost_of c.args.target.now c.args.base_source.now leg bases same from in
    let free = c.free-free.ensures in
    let most = c.if-free-need.false in omega (arith, need, free, most)
