use Rattle.laws_destinations.proofs.DestinationsStay.{answers_keep_destinations}
use Rattle.laws_destinations.proofs.answers_keep_destinations.Goals as goal

pub returns : goal.returns
returns c = answers_keep_destinations
