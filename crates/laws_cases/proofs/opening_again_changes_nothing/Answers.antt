use Rattle.laws_cases.proofs.Answers.Opening.{opened_twice}
use Rattle.laws_cases.proofs.opening_again_changes_nothing.Goals as goal

pub returns : goal.returns
returns c = opened_twice
