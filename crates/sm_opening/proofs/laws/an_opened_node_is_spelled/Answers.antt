use Rattle.sm_opening.proofs.NodeWorld.{node_spelled}
use Rattle.sm_opening.proofs.laws.an_opened_node_is_spelled.Goals as goal

pub returns : goal.returns
returns g c = node_spelled g.D.Disk.state
