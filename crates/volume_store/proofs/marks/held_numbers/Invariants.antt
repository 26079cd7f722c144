use Rattle.std.proofs.Common.{map, take}
use Rattle.sm_root.specs.Condition.{map_of}
use Rattle.volume_store.specs.Maps.{AreUsed}
use Rattle.volume_store.proofs.marks.held_numbers.Given as goal

abbrev pub invariant-loop-at : goal.invariant-loop-at
invariant-loop-at l = AreUsed l.set l.root.physical (map map_of (take l.at l.root.snapshots))
