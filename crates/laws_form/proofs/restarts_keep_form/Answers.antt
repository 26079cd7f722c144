use Rattle.laws_form.proofs.FormedSteps.{restarts_keep_form}
use Rattle.laws_form.proofs.restarts_keep_form.Goals as goal

pub returns : goal.returns
returns c = restarts_keep_form
