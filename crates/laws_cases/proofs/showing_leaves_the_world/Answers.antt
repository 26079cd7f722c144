use Rattle.laws_cases.proofs.Answers.Showing.{showing_leaves}
use Rattle.laws_cases.proofs.showing_leaves_the_world.Goals as goal

pub returns : goal.returns
returns c = showing_leaves
