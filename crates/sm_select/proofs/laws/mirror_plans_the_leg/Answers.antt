use Rattle.sm_select.proofs.PlanLemmas.{mirror_plans}
use Rattle.sm_select.proofs.laws.mirror_plans_the_leg.Goals as goal

pub returns : goal.returns
returns c = mirror_plans
