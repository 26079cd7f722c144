use Rattle.std.proofs.Common.{refl, arith}
use Rattle.sm_lab.proofs.Calls.{asks_workers, no_script, script_run, report_run}
use Rattle.sm_lab.proofs.run.decide.Goals as goal

pub returns-then-options-gt0-clause-ran : goal.returns-then-options-gt0-clause-ran
returns-then-options-gt0-clause-ran g c =
    let u = c.unrun.ensures in
    let some = c.if-options-gt0.true in
    asks_workers g.D.Disk.state _ c.args.options c.unrun.result.status refl (omega (arith, some)) (refl, refl) (record { history = u.history; sides = u.sides; disks = u.disks }) u.status

pub returns-in-Ok-clause-ran : goal.returns-in-Ok-clause-ran
returns-in-Ok-clause-ran g c =
    let none = c.if-options-gt0.false in
    script_run g.D.Disk.state _ c.args.options c.run_on.result.status refl (omega (arith, none)) c.in-Run.is c.in-Ok.script c.in-Ok.ensures.ok (rw c.commands.ensures at c.run_on.ensures)

pub returns-in-Err-clause-ran : goal.returns-in-Err-clause-ran
returns-in-Err-clause-ran g c =
    let u = c.unrun-in-Err.ensures in
    let none = c.if-options-gt0.false in
    no_script g.D.Disk.state _ c.args.options c.unrun-in-Err.result.status c.in-Err.status u.status refl (omega (arith, none)) c.in-Run.is c.in-Err.ensures.err
    (record { history = u.history; sides = u.sides; disks = u.disks })

pub returns-in-Report-clause-ran : goal.returns-in-Report-clause-ran
returns-in-Report-clause-ran g c =
    let none = c.if-options-gt0.false in
    report_run g.D.Disk.state _ c.args.options c.run_on-in-Report.result.status refl (omega (arith, none)) c.in-Report.is (refl, refl) c.run_on-in-Report.ensures
