use Rattle.std.proofs.Common.{◌≡◌, ℕ, arith, refl, subst}
use Rattle.std.proofs.lemmas.Result.{err_from_is_err_and}
use Rattle.sm_base.specs.declared.limits.TheConstants.{MOST_ENTRIES}
use Rattle.sm_model.specs.declared.reply.Reply.{Reply}
use Rattle.sm_crew.specs.Coming.{MakesOne}
use Rattle.sm_crew.proofs.Commands.{served_in, runnable, none_so_far, one_more, few, one_ended, one_refused}
use Rattle.sm_crew.proofs.alone.run_command.Goals as goal

pub loop-last-init : goal.loop-last-init
loop-last-init g c = none_so_far g.D.Disk.state c.args.catalogue.now c.args.command.now

pub returns-in_err-act_for : goal.returns-in_err-act_for
returns-in_err-act_for g c =
    let p = err_from_is_err_and c.from_residual-in_err-act_for.result c.from_residual-in_err-act_for.ensures.1 in
    let l = c.loop-last in
    rw (p.1, p.2) (one_refused g.D.Disk.state Reply c.args.catalogue.now c.args.command.now l.done l.last l.catalogue c.act_for.new.catalogue c.in-Some.event c.in_err-act_for.field-0.0 l.invariant
    c.in_ok-event.field-0 c.in-Some.is c.in_ok-event.ensures.next c.in_err-act_for.ensures.same c.in_err-act_for.ensures.faults)

pub act_for-requires-clause-asked : goal.act_for-requires-clause-asked
act_for-requires-clause-asked g c =
    let l = c.loop-last in
    (runnable c.args.command.now.task l.done l.last c.in_ok-event.field-0 c.in-Some.event c.requires c.in_ok-event.ensures.next c.in-Some.is).0 l.catalogue.world

pub act_for-requires-clause-served : goal.act_for-requires-clause-served
act_for-requires-clause-served g c =
    let l = c.loop-last in
    served_in l.catalogue.world c.in-Some.event (runnable c.args.command.now.task l.done l.last c.in_ok-event.field-0 c.in-Some.event c.requires c.in_ok-event.ensures.next c.in-Some.is).1

pub overflow_add-done : goal.overflow_add-done
overflow_add-done g c =
    let l = c.loop-last in
    let made = subst (λ (n : ℕ). MakesOne g.D.Disk.state l.catalogue n c.in-Some.event c.in_ok-act_for.field-0 c.act_for.new.catalogue) c.line.ensures c.in_ok-act_for.ensures.one in
    let small = few g.D.Disk.state c.args.catalogue.now c.args.command.now l.done l.last l.catalogue c.act_for.new.catalogue c.in-Some.event c.in_ok-act_for.field-0 l.invariant made in
    let most : MOST_ENTRIES ≡ 1048576 = refl in
    record { fits = omega (arith, small, most) }

pub loop-last-preserved : goal.loop-last-preserved
loop-last-preserved g c =
    let l = c.loop-last in
    let made = subst (λ (n : ℕ). MakesOne g.D.Disk.state l.catalogue n c.in-Some.event c.in_ok-act_for.field-0 c.act_for.new.catalogue) c.line.ensures c.in_ok-act_for.ensures.one in
    one_more g.D.Disk.state c.args.catalogue.now c.args.command.now l.done l.last l.catalogue c.act_for.new.catalogue c.in-Some.event c.in_ok-act_for.field-0 l.invariant c.in_ok-event.field-0 c.in-Some.is c.in_ok-event.ensures.next made

pub returns : goal.returns
returns g c =
    one_ended g.D.Disk.state c.args.catalogue.now c.args.command.now c.loop-last.done c.loop-last.last c.loop-last.catalogue c.loop-last.invariant c.in_ok-event.field-0 c.in_default.is c.in_ok-event.ensures.next
