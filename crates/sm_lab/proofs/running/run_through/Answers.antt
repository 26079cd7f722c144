use Rattle.sm_lab.proofs.Runs.{cut_early, all_done, down_at_end, cut_late}
use Rattle.sm_lab.proofs.running.run_through.Goals as goal

pub returns-in-Err : goal.returns-in-Err
returns-in-Err g c =
    cut_early g.D.Disk.state c.args.catalogue.now c.run_alone.new.catalogue c.args.commands.now c.in-Err.fault c.cut_status.result c.cut_status.ensures c.in-Err.ensures

pub returns-in-Ok-None : goal.returns-in-Ok-None
returns-in-Ok-None g c =
    all_done g.D.Disk.state c.args.catalogue.now c.run_alone.new.catalogue c.run_report.new.catalogue c.args.commands.now c.in-Ok-None.field-0 c.in-Ok-None.field-0-is c.in_default.ensures c.in-Ok-None.ensures

pub returns-in-Ok-Some : goal.returns-in-Ok-Some
returns-in-Ok-Some g c =
    down_at_end g.D.Disk.state c.args.catalogue.now c.run_alone.new.catalogue c.run_report.new.catalogue c.args.commands.now c.in-Ok-Some.field-0 c.in-Ok-Some.disk c.in-Ok-Some.field-0-is c.in_default.ensures
    c.in-Ok-Some.ensures

pub returns-in-Err-run_report : goal.returns-in-Err-run_report
returns-in-Err-run_report g c =
    cut_late g.D.Disk.state c.args.catalogue.now c.run_alone.new.catalogue c.run_report.new.catalogue c.args.commands.now c.in-Err-run_report.fault c.cut_status-in-Err-run_report.result
    c.cut_status-in-Err-run_report.ensures c.in_default.ensures c.in-Err-run_report.ensures
