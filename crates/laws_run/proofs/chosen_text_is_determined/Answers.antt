use Rattle.laws_run.proofs.ChosenText.{chosen_determined}
use Rattle.laws_run.proofs.chosen_text_is_determined.Goals as goal

pub returns : goal.returns
returns c = chosen_determined
