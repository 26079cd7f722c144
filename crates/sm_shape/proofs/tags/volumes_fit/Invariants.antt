use Rattle.std.proofs.Common.{take}
use Rattle.sm_defs.specs.Words.{Among}
use Rattle.sm_model.specs.TagsFit.{TagsFitIn}
use Rattle.sm_model.specs.declared.world.WorldVolume.{WorldVolume}
use Rattle.sm_shape.specs.Blank.{blank_volume}
use Rattle.sm_shape.proofs.tags.volumes_fit.Given as goal

abbrev pub invariant-loop-volume : goal.invariant-loop-volume
invariant-loop-volume l = (v : WorldVolume) → Among (take l.volume-index l.volumes) v → TagsFitIn (blank_volume v)
