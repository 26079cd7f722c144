use Rattle.laws_destinations.proofs.TransfersStay.{deeds_keep_transfers}
use Rattle.laws_destinations.proofs.deeds_keep_transfers.Goals as goal

pub returns : goal.returns
returns c = deeds_keep_transfers
