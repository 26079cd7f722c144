use Rattle.std.proofs.Common.{◌≡◌, take}
use Rattle.oracle_lists.proofs.values.copy_snapshots.Given as goal

abbrev pub invariant-loop-snapshot : goal.invariant-loop-snapshot
invariant-loop-snapshot l = l.copy.items ≡ take l.snapshot-index l.snapshots
