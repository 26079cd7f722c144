use Rattle.laws_transfer.proofs.Kept.{legs_needed}
use Rattle.laws_transfer.proofs.legs_are_needed.Goals as goal

pub returns : goal.returns
returns c = legs_needed
