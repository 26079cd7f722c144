use Rattle.laws_cases.proofs.Answers.Deeds.{deeds_are_no_refusals}
use Rattle.laws_cases.proofs.deeds_are_no_refusals.Goals as goal

pub returns : goal.returns
returns c = deeds_are_no_refusals
