use Rattle.std.proofs.Common.{take}
use Rattle.sm_crew.proofs.Commands.{AreDone}
use Rattle.sm_crew.proofs.alone.run_alone.Given as goal

abbrev pub invariant-loop-command : goal.invariant-loop-command
invariant-loop-command g l = AreDone g.D.Disk.state l.fn.catalogue (take l.command-index l.commands) l.catalogue
