use Rattle.laws_run.proofs.AnyRuns.{run_keeps}
use Rattle.laws_run.proofs.runs_keep_soundness.Goals as goal

pub returns : goal.returns
returns c = run_keeps
