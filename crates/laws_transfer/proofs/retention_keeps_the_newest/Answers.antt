use Rattle.laws_transfer.proofs.Kept.{newest_stays}
use Rattle.laws_transfer.proofs.retention_keeps_the_newest.Goals as goal

pub returns : goal.returns
returns c = newest_stays
