use Rattle.laws_run.proofs.LastWorld.{runs_end_with_origins}
use Rattle.laws_run.proofs.runs_end_with_origins.Goals as goal

pub returns : goal.returns
returns c = runs_end_with_origins
