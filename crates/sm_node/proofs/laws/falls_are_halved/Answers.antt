use Rattle.sm_node.proofs.Falls.{fails_halved}
use Rattle.sm_node.proofs.laws.falls_are_halved.Goals as goal

pub returns : goal.returns
returns g c = λ a disk count old new d fails now before after. fails_halved g.D.Disk.state a disk count old new fails now.0 now.1 d before after
