use Rattle.std.proofs.Common.{◌≡◌, take}
use Rattle.volume_store.specs.Next.{staying}
use Rattle.volume_store.proofs.next.staying_of.Given as goal

abbrev pub invariant-loop-snapshot : goal.invariant-loop-snapshot
invariant-loop-snapshot l = l.list.items ≡ staying l.drops (take l.snapshot-index l.snapshots)
