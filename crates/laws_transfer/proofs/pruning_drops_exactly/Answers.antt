use Rattle.laws_transfer.proofs.Kept.{prunes}
use Rattle.laws_transfer.proofs.pruning_drops_exactly.Goals as goal

pub returns : goal.returns
returns c = prunes
