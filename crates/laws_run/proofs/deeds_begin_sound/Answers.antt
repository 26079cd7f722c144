use Rattle.laws_run.proofs.AnyRuns.{run_begins}
use Rattle.laws_run.proofs.deeds_begin_sound.Goals as goal

pub returns : goal.returns
returns c = run_begins
