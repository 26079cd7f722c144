use Rattle.laws_transfer.proofs.Kept.{bases_needed}
use Rattle.laws_transfer.proofs.bases_are_needed.Goals as goal

pub returns : goal.returns
returns c = bases_needed
