use Rattle.laws_blank.proofs.StaysSound.{restarts_stay_sound}
use Rattle.laws_blank.proofs.restarts_stay_sound.Goals as goal

pub returns : goal.returns
returns c = restarts_stay_sound
