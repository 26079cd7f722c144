use Rattle.laws_sound.proofs.Soundly.{restarts_keep_sound}
use Rattle.laws_sound.proofs.restarts_keep_sound.Goals as goal

pub returns : goal.returns
returns c = restarts_keep_sound
