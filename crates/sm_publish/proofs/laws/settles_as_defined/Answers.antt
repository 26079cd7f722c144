use Rattle.sm_publish.proofs.DefinedLemmas.{settles, finishes}
use Rattle.sm_publish.proofs.laws.settles_as_defined.Goals as goal

pub returns-clause-settles : goal.returns-clause-settles
returns-clause-settles c = settles

pub returns-clause-finishes : goal.returns-clause-finishes
returns-clause-finishes c = finishes
