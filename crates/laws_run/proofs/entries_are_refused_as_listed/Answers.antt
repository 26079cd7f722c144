use Rattle.laws_run.proofs.Refused.{entry_listed}
use Rattle.laws_run.proofs.entries_are_refused_as_listed.Goals as goal

pub returns : goal.returns
returns c old new e sides left deeds r n f h = entry_listed r n f h
