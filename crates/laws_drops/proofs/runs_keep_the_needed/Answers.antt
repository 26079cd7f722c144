use Rattle.laws_drops.proofs.Runs.{runs_keep_needed}
use Rattle.laws_drops.proofs.runs_keep_the_needed.Goals as goal

pub returns : goal.returns
returns c = runs_keep_needed
