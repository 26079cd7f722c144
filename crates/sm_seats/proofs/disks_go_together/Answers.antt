use Rattle.sm_seats.proofs.Gathered.{all_together}
use Rattle.sm_seats.proofs.disks_go_together.Goals as goal

pub returns : goal.returns
returns g c = all_together g.D.Disk.state g.W.Seated.shows
