use Rattle.sm_lab.proofs.Smooth.{smooth_end}
use Rattle.sm_lab.proofs.laws.smooth_calls_end_well.Goals as goal

pub returns : goal.returns
returns g c = smooth_end g.D.Disk.state
