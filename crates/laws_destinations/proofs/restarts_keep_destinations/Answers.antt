use Rattle.laws_destinations.proofs.DestinationsStay.{restarts_keep_destinations}
use Rattle.laws_destinations.proofs.restarts_keep_destinations.Goals as goal

pub returns : goal.returns
returns c = restarts_keep_destinations
