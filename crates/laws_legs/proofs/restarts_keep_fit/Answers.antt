use Rattle.laws_legs.proofs.FitStays.{restarts_keep_fit}
use Rattle.laws_legs.proofs.restarts_keep_fit.Goals as goal

pub returns : goal.returns
returns c = restarts_keep_fit
