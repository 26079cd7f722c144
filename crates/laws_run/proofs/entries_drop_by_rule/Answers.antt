use Rattle.laws_run.proofs.AllEntries.{entries_drop_by_rule}
use Rattle.laws_run.proofs.entries_drop_by_rule.Goals as goal

pub returns : goal.returns
returns c = entries_drop_by_rule
