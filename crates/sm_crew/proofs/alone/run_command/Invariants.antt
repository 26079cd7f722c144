use Rattle.std.proofs.Common.{◌-◌, length}
use Rattle.sm_base.specs.declared.limits.TheConstants.{MOST_ENTRIES}
use Rattle.sm_crew.proofs.Commands.{IsSoFar}
use Rattle.sm_crew.proofs.alone.run_command.Given as goal

abbrev pub invariant-loop-last : goal.invariant-loop-last
invariant-loop-last g l = IsSoFar g.D.Disk.state l.fn.catalogue l.command l.done l.last l.catalogue

abbrev pub decreases-loop-last : goal.decreases-loop-last
decreases-loop-last g l = MOST_ENTRIES - length l.catalogue.history
