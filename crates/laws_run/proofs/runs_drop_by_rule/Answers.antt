use Rattle.laws_run.proofs.RunLaws.{runs_drop_by_rule}
use Rattle.laws_run.proofs.runs_drop_by_rule.Goals as goal

pub returns : goal.returns
returns c = runs_drop_by_rule
