use Rattle.std.proofs.Common.{◌≡◌, ◌-◌, length}
use Rattle.sm_base.specs.declared.limits.TheConstants.{MOST_ENTRIES}
use Rattle.sm_defs.specs.World.{Up}
use Rattle.sm_model.specs.World.{up}
use Rattle.sm_crew.proofs.ReportParts.{IsAtRelation}
use Rattle.sm_crew.proofs.report.report_relations.Given as goal

abbrev pub invariant-loop-next : goal.invariant-loop-next
invariant-loop-next g l = (w : Up) → l.fn.catalogue.world ≡ up w → IsAtRelation g.D.Disk.state w l.fn.catalogue l.catalogue l.next

abbrev pub decreases-loop-next : goal.decreases-loop-next
decreases-loop-next g l = MOST_ENTRIES - length l.catalogue.history
