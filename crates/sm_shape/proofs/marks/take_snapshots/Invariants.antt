use Rattle.std.proofs.Common.{true, ℕ, take}
use Rattle.std.specs.List.{flat_map}
use Rattle.sm_shape.specs.Marks.{TakesMaps, one_map}
use Rattle.sm_shape.proofs.marks.take_snapshots.Given as goal

abbrev pub invariant-loop-snapshot : goal.invariant-loop-snapshot
invariant-loop-snapshot l = (most : ℕ) → TakesMaps most l.fn.table l.table (flat_map one_map (take l.snapshot-index l.snapshots)) true
