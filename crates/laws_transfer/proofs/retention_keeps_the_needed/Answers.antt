use Rattle.laws_transfer.proofs.Kept.{keeps_needed}
use Rattle.laws_transfer.proofs.retention_keeps_the_needed.Goals as goal

pub returns : goal.returns
returns c = keeps_needed
