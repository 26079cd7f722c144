use Rattle.laws_crossed.proofs.CrossedStays.{restarts_keep_crossed}
use Rattle.laws_crossed.proofs.restarts_keep_crossed.Goals as goal

pub returns : goal.returns
returns c = restarts_keep_crossed
