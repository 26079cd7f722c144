use Rattle.laws_contents.proofs.Along.{origin_stays}
use Rattle.laws_contents.proofs.origins_stay.Goals as goal

pub returns : goal.returns
returns c = origin_stays
