use Rattle.sm_core.proofs.FaultCounts.{are_counted, are_legal}
use Rattle.sm_core.proofs.rising.faults_are_counted.Goals as goal

pub returns : goal.returns
returns c = record { counted = are_counted; legal = are_legal }
