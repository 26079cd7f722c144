use Rattle.laws_legs.proofs.FitSteps.{deeds_keep_fit}
use Rattle.laws_legs.proofs.deeds_keep_fit.Goals as goal

pub returns : goal.returns
returns c = deeds_keep_fit
