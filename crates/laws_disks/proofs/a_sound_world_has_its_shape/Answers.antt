use Rattle.laws_disks.proofs.Shaped.{crossed_blanked, shape_blanked}
use Rattle.laws_disks.proofs.a_sound_world_has_its_shape.Goals as goal

pub returns : goal.returns
returns c = record { crossed = crossed_blanked; shape = shape_blanked }
