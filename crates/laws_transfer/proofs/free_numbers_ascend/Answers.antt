use Rattle.laws_transfer.proofs.Landed.{free_ascend}
use Rattle.laws_transfer.proofs.free_numbers_ascend.Goals as goal

pub returns : goal.returns
returns c = free_ascend
