use Rattle.laws_families.proofs.BlocksSteps.{deeds_keep_family_blocks}
use Rattle.laws_families.proofs.deeds_keep_family_blocks.Goals as goal

pub returns : goal.returns
returns c = deeds_keep_family_blocks
