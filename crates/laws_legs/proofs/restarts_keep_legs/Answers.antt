use Rattle.laws_legs.proofs.KeptStays.{restarts_keep_legs}
use Rattle.laws_legs.proofs.restarts_keep_legs.Goals as goal

pub returns : goal.returns
returns c = restarts_keep_legs
