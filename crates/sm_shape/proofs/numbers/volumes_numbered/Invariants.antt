use Rattle.std.proofs.Common.{take}
use Rattle.sm_defs.specs.Words.{Among}
use Rattle.sm_model.specs.declared.world.WorldVolume.{WorldVolume}
use Rattle.sm_shape.specs.Numbers.{AreNumbered}
use Rattle.sm_shape.proofs.numbers.volumes_numbered.Given as goal

abbrev pub invariant-loop-volume : goal.invariant-loop-volume
invariant-loop-volume l = (v : WorldVolume) → Among (take l.volume-index l.volumes) v → AreNumbered l.world v.snapshots.items
