use Rattle.sm_core.proofs.FaultCounts.{none_rise, faults_join}
use Rattle.sm_core.proofs.rising.faults_join.Goals as goal

pub returns : goal.returns
returns g c = record { none = none_rise g.D.Disk.state; joined = faults_join g.D.Disk.state }
