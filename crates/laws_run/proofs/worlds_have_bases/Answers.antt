use Rattle.laws_run.proofs.AllWorlds.{worlds_have_bases}
use Rattle.laws_run.proofs.worlds_have_bases.Goals as goal

pub returns : goal.returns
returns c = worlds_have_bases
