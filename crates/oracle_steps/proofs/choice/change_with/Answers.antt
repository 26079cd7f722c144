use Rattle.std.proofs.Common.{◌≡◌, ◌∙◌, ℕ, Option, Some, Result, IfOk, sym, ap, subst}
use Rattle.sm_defs.specs.Relationship.{Relationship, Transfer}
use Rattle.sm_defs.specs.World.{Up}
use Rattle.sm_model.specs.Running.{Running, running_in}
use Rattle.sm_model.specs.Due.{StepKind, kind_due}
use Rattle.sm_model.specs.Choice.{effect_for, chosen_with, chosen_for}
use Rattle.oracle_steps.specs.declared.change.PlainChange.{PlainChange}
use Rattle.oracle_steps.specs.Kinds.{kind_if}
use Rattle.oracle_steps.specs.Chosen.{AreChange}
use Rattle.oracle_steps.specs.Seen.{running_of}
use Rattle.oracle_steps.proofs.choice.change_with.Goals as goal

-- what the due step of a relationship's transfer changes is what is chosen for the relationship
chosen_by_kind : {E : Type 0} (w : Up) (a k : ℕ) (r : Relationship) (t : Transfer) (x : Running) (kind : Option StepKind) (o : Result (Option PlainChange) E) →
    r.transfer ≡ Some t → x ≡ running_in w r t → kind ≡ kind_due x →
    IfOk o (λ change. AreChange w k change (effect_for w a k x kind)) → IfOk o (λ change. AreChange w k change (chosen_for w a r k))
chosen_by_kind w a k r t x kind o runs is due h =
    let same : r ≡ record r { transfer = Some t } = ap (λ m. record r { transfer = m }) runs in
    let by_due = subst (λ m. IfOk o (λ change. AreChange w k change (effect_for w a k x m))) due h in
    let by_running = subst (λ y. IfOk o (λ change. AreChange w k change (chosen_with w a k y))) (subst (λ s. x ≡ running_in w s t) same is) by_due in
    subst (λ s. IfOk o (λ change. AreChange w k change (chosen_for w a s k))) (sym same) by_running

pub returns-in_ok-kind-in-Some-running_in : goal.returns-in_ok-kind-in-Some-running_in
returns-in_ok-kind-in-Some-running_in c k =
    chosen_by_kind c.args.world.now c.args.actor k c.args.relation.now c.in-Some.transfer (running_of c.in-Some-running_in.x) (kind_if c.in_ok-kind-in-Some-running_in.kind) c.change_for.result
    (sym (ap (λ (s : Relationship). s.transfer) c.relation.view_is) ∙ c.in-Some.is) c.in-Some-running_in.ensures.found c.in_ok-kind-in-Some-running_in.ensures (c.change_for.ensures k)
