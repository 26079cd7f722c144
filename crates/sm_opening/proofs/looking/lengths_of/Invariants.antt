use Rattle.std.proofs.Common.{◌≡◌, map, take}
use Rattle.sm_opening.specs.Looked.{size_of}
use Rattle.sm_opening.proofs.looking.lengths_of.Given as goal

abbrev pub invariant-loop-at : goal.invariant-loop-at
invariant-loop-at g l = l.lengths.items ≡ map (size_of g.D.Disk.state) (take l.at l.disks)
