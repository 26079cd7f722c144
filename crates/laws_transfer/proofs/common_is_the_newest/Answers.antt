use Rattle.laws_transfer.proofs.Kept.{common_newest}
use Rattle.laws_transfer.proofs.common_is_the_newest.Goals as goal

pub returns : goal.returns
returns c = common_newest
