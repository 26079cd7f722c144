use Rattle.sm_opening.proofs.Progress.{Progress}
use Rattle.sm_opening.proofs.volumes.find_volumes.Given as goal

abbrev pub invariant-loop-at : goal.invariant-loop-at
invariant-loop-at g l = Progress g.D.Disk.state l.fn.disks l.placed l.at l.disks l.founds.items
