use Rattle.laws_copies.proofs.CopiesStay.{restarts_keep_copies}
use Rattle.laws_copies.proofs.restarts_keep_copies.Goals as goal

pub returns : goal.returns
returns c = restarts_keep_copies
