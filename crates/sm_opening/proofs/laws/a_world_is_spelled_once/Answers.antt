use Rattle.sm_opening.proofs.Once.{one_world}
use Rattle.sm_opening.proofs.laws.a_world_is_spelled_once.Goals as goal

pub returns : goal.returns
returns c d v w a b = one_world d v w a b
