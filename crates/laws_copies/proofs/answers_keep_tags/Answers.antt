use Rattle.laws_copies.proofs.CopiesStay.{answers_keep_tags}
use Rattle.laws_copies.proofs.answers_keep_tags.Goals as goal

pub returns : goal.returns
returns c = answers_keep_tags
