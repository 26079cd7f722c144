use Rattle.sm_transfer.proofs.LegLemmas.{planned_fits, due_fits}
use Rattle.sm_transfer.proofs.laws.due_ships_fit.Goals as goal

pub returns-clause-planned : goal.returns-clause-planned
returns-clause-planned c = planned_fits

pub returns-clause-due : goal.returns-clause-due
returns-clause-due c = due_fits
