use Rattle.sm_select.proofs.PlanLemmas.{vault_plans}
use Rattle.sm_select.proofs.laws.vault_plans_the_leg.Goals as goal

pub returns : goal.returns
returns c = vault_plans
