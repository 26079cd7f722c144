use Rattle.sm_seats.proofs.Moving.{one_is_added_whole}
use Rattle.sm_seats.proofs.one_is_added.Goals as goal

pub returns : goal.returns
returns g c = one_is_added_whole g.D.Disk.state g.W.Seated.shows
