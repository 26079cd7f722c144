use Rattle.laws_idle.proofs.HasEffect.{running_have_steps}
use Rattle.laws_idle.proofs.running_transfers_have_steps.Goals as goal

pub returns : goal.returns
returns c = running_have_steps
