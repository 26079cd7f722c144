use Rattle.std.proofs.Common.{get_or, refl}
use Rattle.std.proofs.lemmas.Option.{slice_get-get_or}
use Rattle.sm_node.proofs.restarting.restart_at.Goals as goal

pub returns : goal.returns
returns g c = record {
  old = get_or c.args.seats.now c.args.at c.index-seats-at.result;
  new = c.restart_seat.new.seat;
  was = slice_get-get_or c.args.seats.now c.args.at c.index-seats-at.result c.requires.place;
  is = refl;
  did = c.restart_seat.ensures;
}
