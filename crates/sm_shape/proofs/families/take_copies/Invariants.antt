use Rattle.std.proofs.Common.{true, take}
use Rattle.std.specs.List.{flat_map}
use Rattle.sm_shape.specs.Copies.{TakesCopies, one_copy}
use Rattle.sm_shape.proofs.families.take_copies.Given as goal

abbrev pub invariant-loop-snapshot : goal.invariant-loop-snapshot
invariant-loop-snapshot l = TakesCopies l.fn.firsts l.firsts (flat_map (one_copy l.family) (take l.snapshot-index l.snapshots)) true
