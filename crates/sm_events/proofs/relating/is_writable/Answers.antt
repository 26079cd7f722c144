use Rattle.std.proofs.Common.{refl, sym, ap, ◌∙◌}
use Rattle.std.proofs.lemmas.Option.{slice_get_read}
use Rattle.sm_defs.specs.Volume.{Volume, is_rw}
use Rattle.sm_root.specs.declared.root.Root.{Root}
use Rattle.sm_volume.specs.Seen.{root_of}
use Rattle.sm_node.specs.Seats.{Seated}
use Rattle.sm_node.proofs.PlacedLemmas.{none_placed, one_placed}
use Rattle.sm_events.proofs.relating.is_writable.Goals as goal

pub returns-in-None : goal.returns-in-None
returns-in-None g c = λ ps e. sym (ap (λ (v : Volume). is_rw v.kind) (none_placed ps c.args.seats.now c.args.number c.in-None.ensures.lookup.3))

pub returns-in-Some : goal.returns-in-Some
returns-in-Some g c = λ ps e.
    let l = c.in-Some.ensures.lookup in
    let s = c.in-Some.seat.now in
    let there = slice_get_read c.args.seats.now _ c.args.number s refl l.3.0 l.1 in
    let p = one_placed ps c.args.seats.now c.args.number s e there in
    let volume = ap (λ (x : Seated _). x.volume) c.seat.view_is in
    let root = c.root.ensures ∙ ap (λ v. root_of v.number v.volume) volume in
    c.is_rw.ensures ∙ ap (λ (r : Root). is_rw r.kind) root ∙ sym (ap (λ (v : Volume). is_rw v.kind) p.2)
