use Rattle.std.proofs.Common.{◌-◌}
use Rattle.sm_model.specs.Asked.{digest_events}
use Rattle.sm_crew.proofs.Reports.{IsOnTheWay}
use Rattle.sm_crew.proofs.ReportParts.{snapshot_events}
use Rattle.sm_crew.proofs.report.report_images.Given as goal

abbrev pub invariant-loop-place : goal.invariant-loop-place
invariant-loop-place g l = IsOnTheWay g.D.Disk.state l.fn.catalogue (snapshot_events l.volume.0 l.place (l.count - l.place)) (digest_events l.volume.0 l.count) l.catalogue
