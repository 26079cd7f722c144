use Rattle.std.proofs.Common.{true, take}
use Rattle.std.specs.List.{flat_map}
use Rattle.sm_shape.specs.Copies.{TakesNamed, one_named}
use Rattle.sm_shape.proofs.copies.take_snapshots.Given as goal

abbrev pub invariant-loop-snapshot : goal.invariant-loop-snapshot
invariant-loop-snapshot l = TakesNamed l.fn.firsts l.firsts (flat_map one_named (take l.snapshot-index l.snapshots)) true
