use Rattle.laws_blank.proofs.SoundOfShape.{sound_of_shape}
use Rattle.laws_blank.proofs.a_shaped_world_is_sound.Goals as goal

pub returns : goal.returns
returns c = sound_of_shape
