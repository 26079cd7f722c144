use Rattle.laws_legs.proofs.KeptStays.{deeds_keep_legs}
use Rattle.laws_legs.proofs.deeds_keep_legs.Goals as goal

pub returns : goal.returns
returns c = deeds_keep_legs
