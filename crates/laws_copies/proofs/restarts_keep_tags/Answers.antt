use Rattle.laws_copies.proofs.TagsStay.{of_opened}
use Rattle.laws_copies.proofs.restarts_keep_tags.Goals as goal

pub returns : goal.returns
returns c = of_opened
