use Rattle.sm_seats.proofs.Numbering.{seats_are_numbered}
use Rattle.sm_seats.proofs.seats_are_numbered.Goals as goal

pub returns : goal.returns
returns g c = seats_are_numbered g.D.Disk.state g.W.Seated.shows
