use Rattle.laws_cases.proofs.Answers.Refused.{of_entry}
use Rattle.laws_cases.proofs.refusals_leave_the_world.Goals as goal

pub returns : goal.returns
returns c = of_entry
