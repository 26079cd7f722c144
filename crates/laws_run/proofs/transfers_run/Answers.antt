use Rattle.laws_run.proofs.Examples.{transfers_run}
use Rattle.laws_run.proofs.transfers_run.Goals as goal

pub returns : goal.returns
returns c = transfers_run
