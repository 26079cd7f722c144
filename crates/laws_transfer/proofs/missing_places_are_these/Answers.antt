use Rattle.laws_transfer.proofs.Asc.{missing_places_are}
use Rattle.laws_transfer.proofs.missing_places_are_these.Goals as goal

pub returns : goal.returns
returns c = missing_places_are
