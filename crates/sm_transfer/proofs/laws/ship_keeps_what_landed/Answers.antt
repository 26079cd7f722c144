use Rattle.sm_transfer.proofs.KeepLemmas.{ship_keeps}
use Rattle.sm_transfer.proofs.laws.ship_keeps_what_landed.Goals as goal

pub returns : goal.returns
returns g c = ship_keeps g.D.Disk.state
