use Rattle.laws_transfer.proofs.Landed.{same_bytes}
use Rattle.laws_transfer.proofs.landing_has_the_legs_bytes.Goals as goal

pub returns : goal.returns
returns c = same_bytes
