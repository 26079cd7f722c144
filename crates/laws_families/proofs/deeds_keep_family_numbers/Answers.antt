use Rattle.laws_families.proofs.BlocksStay.{deeds_keep_given}
use Rattle.laws_families.proofs.deeds_keep_family_numbers.Goals as goal

pub returns : goal.returns
returns c = deeds_keep_given
