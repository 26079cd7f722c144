use Rattle.laws_legs.proofs.FitStays.{answers_keep_fit}
use Rattle.laws_legs.proofs.answers_keep_fit.Goals as goal

pub returns : goal.returns
returns c = answers_keep_fit
