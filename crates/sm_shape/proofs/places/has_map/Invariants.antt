use Rattle.std.proofs.Common.{◌≡◌, take}
use Rattle.sm_defs.specs.Words.{Among}
use Rattle.sm_model.specs.declared.world.WorldSnapshot.{WorldSnapshot}
use Rattle.sm_shape.proofs.places.has_map.Given as goal

abbrev pub invariant-loop-snapshot : goal.invariant-loop-snapshot
invariant-loop-snapshot l = (s : WorldSnapshot) → Among (take l.snapshot-index l.snapshots) s → ¬ (l.numbers ≡ s.map.items)
