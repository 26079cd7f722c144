use Rattle.laws_copies.proofs.TagsStay.{of_step}
use Rattle.laws_copies.proofs.steps_keep_tags.Goals as goal

pub returns : goal.returns
returns c = of_step
