use Rattle.laws_blank.proofs.StaysSound.{blanked_stays_sound}
use Rattle.laws_blank.proofs.blanked_stays_sound.Goals as goal

pub returns : goal.returns
returns c = blanked_stays_sound
