use Rattle.laws_sound.proofs.Soundly.{deeds_keep_sound}
use Rattle.laws_sound.proofs.deeds_keep_sound.Goals as goal

pub returns : goal.returns
returns c = deeds_keep_sound
