use Rattle.std.proofs.Common.{take}
use Rattle.sm_shape.specs.Numbers.{AreNumbered}
use Rattle.sm_shape.proofs.numbers.snapshots_numbered.Given as goal

abbrev pub invariant-loop-snapshot : goal.invariant-loop-snapshot
invariant-loop-snapshot l = AreNumbered l.world (take l.snapshot-index l.snapshots)
