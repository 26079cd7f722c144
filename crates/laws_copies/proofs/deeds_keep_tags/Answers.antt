use Rattle.laws_copies.proofs.TagsStay.{of_deed}
use Rattle.laws_copies.proofs.deeds_keep_tags.Goals as goal

pub returns : goal.returns
returns c = of_deed
