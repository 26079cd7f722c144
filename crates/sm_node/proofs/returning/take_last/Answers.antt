use Rattle.std.proofs.Common.{ap, ◌∙◌}
use Rattle.sm_node.specs.Seats.{Seated, disk_number, device}
use Rattle.sm_node.proofs.returning.take_last.Goals as goal

pub returns : goal.returns
returns g c = record {
  last = c.in-Some.seat;
  is = c.in-Some.ensures.items;
  named = ap (λ (s : Seated _). disk_number s) c.seat.view_is;
  found_is = c.into_disk.ensures ∙ ap (λ (s : Seated _). device s) c.seat.view_is;
}
