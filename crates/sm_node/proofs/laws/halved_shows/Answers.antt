use Rattle.sm_node.proofs.HalfTurns.{halved_shows as shows_one_of}
use Rattle.sm_node.proofs.laws.halved_shows.Goals as goal

pub returns : goal.returns
returns g c = λ n d side half. shows_one_of g.D.Disk.state d side n half
