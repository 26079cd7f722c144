use Rattle.std.proofs.Common.{◌≡◌, take}
use Rattle.sm_root.proofs.lists.copies.Given as goal

abbrev pub invariant-loop-snapshot : goal.invariant-loop-snapshot
invariant-loop-snapshot l = l.list.items ≡ take l.snapshot-index l.snapshots
