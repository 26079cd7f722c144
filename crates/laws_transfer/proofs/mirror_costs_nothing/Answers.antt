use Rattle.laws_transfer.proofs.Asc.{mirror_nothing}
use Rattle.laws_transfer.proofs.mirror_costs_nothing.Goals as goal

pub returns : goal.returns
returns c = mirror_nothing
