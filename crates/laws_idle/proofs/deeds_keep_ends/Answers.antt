use Rattle.laws_idle.proofs.Ending.{deeds_keep_ends}
use Rattle.laws_idle.proofs.deeds_keep_ends.Goals as goal

pub returns : goal.returns
returns c = deeds_keep_ends
