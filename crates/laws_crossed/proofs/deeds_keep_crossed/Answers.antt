use Rattle.laws_crossed.proofs.CrossedStays.{deeds_keep_crossed}
use Rattle.laws_crossed.proofs.deeds_keep_crossed.Goals as goal

pub returns : goal.returns
returns c = deeds_keep_crossed
