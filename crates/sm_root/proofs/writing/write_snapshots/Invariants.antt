use Rattle.std.proofs.Common.{◌≡◌, ◌++◌, take}
use Rattle.std.specs.List.{flat_map}
use Rattle.sm_root.specs.Spelling.{snapshot_bytes}
use Rattle.sm_root.proofs.writing.write_snapshots.Given as goal

abbrev pub invariant-loop-snapshot : goal.invariant-loop-snapshot
invariant-loop-snapshot l = l.writer ≡ l.fn.writer ++ flat_map snapshot_bytes (take l.snapshot-index l.snapshots)
