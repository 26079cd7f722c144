use Rattle.laws_transfer.proofs.Kept.{no_more}
use Rattle.laws_transfer.proofs.rules_keep_no_more.Goals as goal

pub returns : goal.returns
returns c = no_more
