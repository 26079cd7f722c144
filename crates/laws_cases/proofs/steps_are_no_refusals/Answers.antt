use Rattle.laws_cases.proofs.Answers.Deeds.{steps_are_no_refusals}
use Rattle.laws_cases.proofs.steps_are_no_refusals.Goals as goal

pub returns : goal.returns
returns c = steps_are_no_refusals
