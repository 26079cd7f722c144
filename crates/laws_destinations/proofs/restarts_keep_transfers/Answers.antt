use Rattle.laws_destinations.proofs.TransfersStay.{restarts_keep_transfers}
use Rattle.laws_destinations.proofs.restarts_keep_transfers.Goals as goal

pub returns : goal.returns
returns c = restarts_keep_transfers
