use Rattle.laws_cases.proofs.Needed.NeedsStay.{steps_keep}
use Rattle.laws_cases.proofs.steps_keep_the_needed.Goals as goal

pub returns : goal.returns
returns c = steps_keep
