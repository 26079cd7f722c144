use Rattle.laws_copies.proofs.CopiesStay.{steps_keep_copies}
use Rattle.laws_copies.proofs.steps_keep_copies.Goals as goal

pub returns : goal.returns
returns c = steps_keep_copies
