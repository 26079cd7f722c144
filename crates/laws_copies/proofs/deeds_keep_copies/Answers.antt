use Rattle.laws_copies.proofs.CopiesStay.{deeds_keep_copies}
use Rattle.laws_copies.proofs.deeds_keep_copies.Goals as goal

pub returns : goal.returns
returns c = deeds_keep_copies
