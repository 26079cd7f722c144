use Rattle.laws_form.proofs.FormedSteps.{deeds_keep_form}
use Rattle.laws_form.proofs.deeds_keep_form.Goals as goal

pub returns : goal.returns
returns c = deeds_keep_form
