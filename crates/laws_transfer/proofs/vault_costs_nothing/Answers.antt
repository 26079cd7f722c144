use Rattle.laws_transfer.proofs.Asc.{vault_nothing}
use Rattle.laws_transfer.proofs.vault_costs_nothing.Goals as goal

pub returns : goal.returns
returns c = vault_nothing
