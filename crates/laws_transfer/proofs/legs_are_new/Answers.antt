use Rattle.laws_transfer.proofs.Sent.{legs_new}
use Rattle.laws_transfer.proofs.legs_are_new.Goals as goal

pub returns : goal.returns
returns c = legs_new
