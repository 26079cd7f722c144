use Rattle.laws_run.proofs.RunLaws.{worlds_have_origins}
use Rattle.laws_run.proofs.worlds_have_origins.Goals as goal

pub returns : goal.returns
returns c = worlds_have_origins
