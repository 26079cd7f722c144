use Rattle.std.proofs.Common.{◌≡◌, take, map}
use Rattle.sm_shape.specs.Blank.{blank_snapshot}
use Rattle.sm_opening.specs.Bare.{bare_snapshot}
use Rattle.sm_opening.proofs.worlds.world_snapshots.Given as goal

abbrev pub invariant-loop-snapshot : goal.invariant-loop-snapshot
invariant-loop-snapshot l = map blank_snapshot l.list.items ≡ map bare_snapshot (take l.snapshot-index l.snapshots)
