use Rattle.laws_transfer.proofs.Asc.{determined}
use Rattle.laws_transfer.proofs.missing_tags_are_determined.Goals as goal

pub returns : goal.returns
returns c = determined
