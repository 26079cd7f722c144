use Rattle.sm_seats.proofs.Gathered.{ends_in_one}
use Rattle.sm_seats.proofs.ends_in_one.Goals as goal

pub returns : goal.returns
returns g c = ends_in_one g.D.Disk.state g.W.Seated.shows
