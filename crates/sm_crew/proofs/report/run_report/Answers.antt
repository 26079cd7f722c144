use Rattle.std.proofs.Common.{subst}
use Rattle.sm_crew.specs.Reporting.{report_of, Stops}
use Rattle.sm_crew.specs.declared.stop.Stop.{Stop}
use Rattle.sm_crew.proofs.ReportParts.{whole_report, ended_report, cut_report}
use Rattle.sm_crew.proofs.report.run_report.Goals as goal

pub returns-in-Ok : goal.returns-in-Ok
returns-in-Ok g c = whole_report g.D.Disk.state c.args.catalogue.now c.report_all.new.catalogue c.in-Ok.ensures.done

pub returns-in-Err-Down : goal.returns-in-Err-Down
returns-in-Err-Down g c =
    let old = c.args.catalogue.now in
    let new = c.report_all.new.catalogue in
    ended_report g.D.Disk.state old new c.in-Err-Down.disk
    (subst (λ (stop : Stop). Stops g.D.Disk.state old (report_of old.world) stop new) c.in-Err-Down.field-0-is c.in-Err-Down.ensures.stopped)

pub returns-in-Err-Fault : goal.returns-in-Err-Fault
returns-in-Err-Fault g c =
    let old = c.args.catalogue.now in
    let new = c.report_all.new.catalogue in
    cut_report g.D.Disk.state old new c.in-Err-Fault.fault
    (subst (λ (stop : Stop). Stops g.D.Disk.state old (report_of old.world) stop new) c.in-Err-Fault.field-0-is c.in-Err-Fault.ensures.stopped)
