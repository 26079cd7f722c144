use Rattle.laws_copies.proofs.NumbersStay.{restarts_keep_numbers}
use Rattle.laws_copies.proofs.restarts_keep_numbers.Goals as goal

pub returns : goal.returns
returns c = restarts_keep_numbers
