use Rattle.laws_run.proofs.First.{first_volume}
use Rattle.laws_run.proofs.first_volume_is_made.Goals as goal

pub returns : goal.returns
returns c = first_volume
