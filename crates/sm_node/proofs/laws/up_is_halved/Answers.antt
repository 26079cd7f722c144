use Rattle.sm_node.proofs.Falls.{up_halved, up_nothing}
use Rattle.sm_node.proofs.laws.up_is_halved.Goals as goal

pub returns : goal.returns
returns g c = λ n d up before. (up_halved g.D.Disk.state n up d before, up_nothing g.D.Disk.state n up)
