use Rattle.laws_transfer.proofs.Kept.{prune_thins}
use Rattle.laws_transfer.proofs.pruning_thins.Goals as goal

pub returns : goal.returns
returns c = prune_thins
