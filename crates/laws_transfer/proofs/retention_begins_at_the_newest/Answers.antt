use Rattle.laws_transfer.proofs.Kept.{begins}
use Rattle.laws_transfer.proofs.retention_begins_at_the_newest.Goals as goal

pub returns : goal.returns
returns c = begins
