use Rattle.laws_drops.proofs.Runs.{runs_do_deeds}
use Rattle.laws_drops.proofs.runs_do_deeds.Goals as goal

pub returns : goal.returns
returns c = runs_do_deeds
