use Rattle.laws_transfer.proofs.Landed.{in_order}
use Rattle.laws_transfer.proofs.missing_blocks_take_numbers_in_order.Goals as goal

pub returns : goal.returns
returns c = in_order
