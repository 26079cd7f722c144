use Rattle.laws_transfer.proofs.Kept.{thins}
use Rattle.laws_transfer.proofs.retention_thins.Goals as goal

pub returns : goal.returns
returns c = thins
