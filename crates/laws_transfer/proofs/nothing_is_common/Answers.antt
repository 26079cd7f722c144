use Rattle.laws_transfer.proofs.Kept.{none_common}
use Rattle.laws_transfer.proofs.nothing_is_common.Goals as goal

pub returns : goal.returns
returns c = none_common
