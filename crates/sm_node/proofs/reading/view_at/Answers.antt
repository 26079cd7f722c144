use Rattle.std.proofs.Common.{ap, ◌∙◌}
use Rattle.std.proofs.lemmas.Option.{get_or_from_slice_get}
use Rattle.sm_volume.specs.Seen.{root_of}
use Rattle.sm_node.specs.Seats.{Seated}
use Rattle.sm_node.proofs.HoldingLemmas.{ok_so}
use Rattle.sm_node.proofs.reading.view_at.Goals as goal

pub returns : goal.returns
returns g c = ok_so c.view_of.result _ _ c.view_of.ensures (λ answer e p s there.
    let seat = c.seat.view_is ∙ c.index-seats-at.is ∙ get_or_from_slice_get c.args.seats.now c.args.at s c.index-seats-at.result there in
    e s.volume.number s.volume.volume (c.root.ensures ∙ ap (λ (x : Seated _). root_of x.volume.number x.volume.volume) seat))
