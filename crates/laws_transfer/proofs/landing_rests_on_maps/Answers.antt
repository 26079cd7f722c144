use Rattle.laws_transfer.proofs.Landed.{maps_alone}
use Rattle.laws_transfer.proofs.landing_rests_on_maps.Goals as goal

pub returns : goal.returns
returns c = maps_alone
