use Rattle.laws_copies.proofs.CopiesStay.{answers_keep_copies}
use Rattle.laws_copies.proofs.answers_keep_copies.Goals as goal

pub returns : goal.returns
returns c = answers_keep_copies
