use Rattle.laws_idle.proofs.Ending.{restarts_keep_ends}
use Rattle.laws_idle.proofs.restarts_keep_ends.Goals as goal

pub returns : goal.returns
returns c = restarts_keep_ends
