use Rattle.sm_opening.proofs.Once.{one_fault}
use Rattle.sm_opening.proofs.laws.a_fault_is_named_once.Goals as goal

pub returns : goal.returns
returns c d f g small a b = one_fault d f g small a b
