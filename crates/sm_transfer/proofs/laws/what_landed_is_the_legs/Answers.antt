use Rattle.sm_transfer.proofs.LegLemmas.{what_landed, has_landed, land_apart}
use Rattle.sm_transfer.proofs.laws.what_landed_is_the_legs.Goals as goal

pub returns-clause-legs : goal.returns-clause-legs
returns-clause-legs c = what_landed

pub returns-clause-apart : goal.returns-clause-apart
returns-clause-apart c = land_apart

pub returns-clause-landed : goal.returns-clause-landed
returns-clause-landed c = has_landed
