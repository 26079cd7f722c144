use Rattle.sm_seats.proofs.Moving.{nothing_changes}
use Rattle.sm_seats.proofs.nothing_changes.Goals as goal

pub returns : goal.returns
returns g c = nothing_changes g.D.Disk.state g.W.Seated.shows
