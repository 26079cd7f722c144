use Rattle.std.proofs.Common.{◌≡◌}
use Rattle.sm_defs.specs.World.{Up}
use Rattle.sm_model.specs.Asked.{events_of_volumes}
use Rattle.sm_model.specs.World.{up}
use Rattle.sm_crew.proofs.Reports.{IsOnTheWay}
use Rattle.sm_crew.proofs.ReportParts.{volumes_from}
use Rattle.sm_crew.proofs.report.report_volumes.Given as goal

abbrev pub invariant-loop-number : goal.invariant-loop-number
invariant-loop-number g l = (w : Up) → l.fn.catalogue.world ≡ up w → IsOnTheWay g.D.Disk.state l.fn.catalogue (volumes_from w l.number) (events_of_volumes 0 w.volumes) l.catalogue
