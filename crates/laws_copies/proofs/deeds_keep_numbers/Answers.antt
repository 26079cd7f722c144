use Rattle.laws_copies.proofs.NumbersStay.{deeds_keep_numbers}
use Rattle.laws_copies.proofs.deeds_keep_numbers.Goals as goal

pub returns : goal.returns
returns c = deeds_keep_numbers
