use Rattle.laws_transfer.proofs.Kept.{names_first}
use Rattle.laws_transfer.proofs.keep_reached_names_the_first.Goals as goal

pub returns : goal.returns
returns c = names_first
