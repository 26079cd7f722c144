use Rattle.laws_run.proofs.Determined.{determined}
use Rattle.laws_run.proofs.text_is_determined.Goals as goal

pub returns : goal.returns
returns c = determined
