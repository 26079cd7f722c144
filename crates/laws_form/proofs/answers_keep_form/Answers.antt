use Rattle.laws_form.proofs.FormedEvents.{answers_keep_form}
use Rattle.laws_form.proofs.answers_keep_form.Goals as goal

pub returns : goal.returns
returns c = answers_keep_form
