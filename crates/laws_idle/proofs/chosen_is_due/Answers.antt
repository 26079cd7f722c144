use Rattle.laws_idle.proofs.Choosing.{chosen_is_due}
use Rattle.laws_idle.proofs.chosen_is_due.Goals as goal

pub returns : goal.returns
returns c = chosen_is_due
