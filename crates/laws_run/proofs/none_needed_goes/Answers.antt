use Rattle.laws_run.proofs.AllEntries.{none_needed_goes}
use Rattle.laws_run.proofs.none_needed_goes.Goals as goal

pub returns : goal.returns
returns c = none_needed_goes
