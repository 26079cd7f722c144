use Rattle.laws_families.proofs.OwnFamiliesStay.{deeds_keep_own_families}
use Rattle.laws_families.proofs.deeds_keep_own_families.Goals as goal

pub returns : goal.returns
returns c = deeds_keep_own_families
