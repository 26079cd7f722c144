use Rattle.laws_families.proofs.BlocksStay.{answers_keep_family_blocks}
use Rattle.laws_families.proofs.answers_keep_family_blocks.Goals as goal

pub returns : goal.returns
returns c = answers_keep_family_blocks
