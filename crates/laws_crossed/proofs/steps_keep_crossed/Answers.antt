use Rattle.laws_crossed.proofs.CrossedSteps.{steps_keep_crossed}
use Rattle.laws_crossed.proofs.steps_keep_crossed.Goals as goal

pub returns : goal.returns
returns c = steps_keep_crossed
