use Rattle.sm_opening.proofs.Once.{no_fault}
use Rattle.sm_opening.proofs.laws.a_world_has_no_fault.Goals as goal

pub returns : goal.returns
returns c d w f small s a = no_fault d w f small s a
