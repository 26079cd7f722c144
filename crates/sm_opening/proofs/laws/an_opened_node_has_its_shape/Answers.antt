use Rattle.sm_opening.proofs.NodeShape.{node_shaped}
use Rattle.sm_opening.proofs.laws.an_opened_node_has_its_shape.Goals as goal

pub returns : goal.returns
returns g c = node_shaped g.D.Disk.state
