use Rattle.sm_seats.proofs.Moving.{one_changes_whole}
use Rattle.sm_seats.proofs.one_changes.Goals as goal

pub returns : goal.returns
returns g c = one_changes_whole g.D.Disk.state g.W.Seated.shows
