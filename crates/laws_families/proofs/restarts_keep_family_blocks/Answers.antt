use Rattle.laws_families.proofs.BlocksStay.{restarts_keep_family_blocks}
use Rattle.laws_families.proofs.restarts_keep_family_blocks.Goals as goal

pub returns : goal.returns
returns c = restarts_keep_family_blocks
