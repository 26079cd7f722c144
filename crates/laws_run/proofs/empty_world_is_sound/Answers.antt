use Rattle.laws_run.proofs.Empty.{empty_sound}
use Rattle.laws_run.proofs.empty_world_is_sound.Goals as goal

pub returns : goal.returns
returns c = empty_sound
