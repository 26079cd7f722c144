use Rattle.laws_run.proofs.RunLaws.{runs_make_once}
use Rattle.laws_run.proofs.runs_make_once.Goals as goal

pub returns : goal.returns
returns c = runs_make_once
