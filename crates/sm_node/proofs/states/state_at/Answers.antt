use Rattle.std.proofs.Common.{refl, sym, ap, ◌∙◌, subst}
use Rattle.std.proofs.lemmas.Option.{slice_get_read}
use Rattle.sm_defs.specs.Edges.{mirror_state}
use Rattle.sm_root.specs.declared.root.Root.{Root}
use Rattle.sm_relation.specs.Shown.{IsRootOf}
use Rattle.sm_volume.specs.Seen.{root_of}
use Rattle.sm_node.specs.Seats.{Seated}
use Rattle.sm_node.specs.Nodes.{placed}
use Rattle.sm_node.proofs.PlacedLemmas.{none_placed, one_placed, is_root_of}
use Rattle.sm_node.proofs.states.state_at.Goals as goal

pub returns-in-None : goal.returns-in-None
returns-in-None g c = λ ps e. sym (ap mirror_state (none_placed ps c.args.seats.now c.args.number c.in-None.ensures.lookup.3))

pub returns-in-Some : goal.returns-in-Some
returns-in-Some g c = λ ps e.
    let l = c.in-Some.ensures.lookup in
    let s = c.in-Some.seat.now in
    let there = slice_get_read c.args.seats.now _ c.args.number s refl l.3.0 l.1 in
    let p = one_placed ps c.args.seats.now c.args.number s e there in
    let volume = ap (λ (x : Seated _). x.volume) c.seat.view_is in
    let root = c.root.ensures ∙ ap (λ v. root_of v.number v.volume) volume in
    c.mirror_state.ensures (placed p.0 s.volume) (subst (λ (r : Root). IsRootOf r (placed p.0 s.volume)) (sym root) (is_root_of s.volume.number p.0 s.volume))
    ∙ sym (ap mirror_state p.2)
