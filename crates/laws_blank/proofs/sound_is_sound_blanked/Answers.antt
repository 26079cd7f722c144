use Rattle.laws_blank.proofs.SoundBlanked.{sound_blanked}
use Rattle.laws_blank.proofs.sound_is_sound_blanked.Goals as goal

pub returns : goal.returns
returns c = sound_blanked
