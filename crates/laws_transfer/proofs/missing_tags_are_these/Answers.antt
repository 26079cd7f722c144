use Rattle.laws_transfer.proofs.Asc.{missing_tags_are}
use Rattle.laws_transfer.proofs.missing_tags_are_these.Goals as goal

pub returns : goal.returns
returns c = missing_tags_are
