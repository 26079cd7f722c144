use Rattle.std.proofs.Common.{◌≡◌, take}
use Rattle.sm_defs.specs.Retention.{labels}
use Rattle.oracle_lists.proofs.keeping.labels_of.Given as goal

abbrev pub invariant-loop-snapshot : goal.invariant-loop-snapshot
invariant-loop-snapshot l = l.all.items ≡ labels (take l.snapshot-index l.snapshots)
