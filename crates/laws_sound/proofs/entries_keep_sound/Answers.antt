use Rattle.laws_sound.proofs.Soundly.{entries_keep_sound}
use Rattle.laws_sound.proofs.entries_keep_sound.Goals as goal

pub returns : goal.returns
returns c = entries_keep_sound
