use Rattle.laws_families.proofs.OwnFamiliesStay.{restarts_keep_own_families}
use Rattle.laws_families.proofs.restarts_keep_own_families.Goals as goal

pub returns : goal.returns
returns c = restarts_keep_own_families
