use Rattle.laws_destinations.proofs.DestinationsStay.{deeds_keep_destinations}
use Rattle.laws_destinations.proofs.deeds_keep_destinations.Goals as goal

pub returns : goal.returns
returns c = deeds_keep_destinations
