use Rattle.std.proofs.Common.{◌<◌, List, ◌∷◌, length, map, Option, sym, ap, subst, ◌∙◌}
use Rattle.std.specs.Prelude.{slice_get}
use Rattle.std.proofs.lemmas.List.{with_items_is}
use Rattle.sm_node.specs.Seats.{device}
use Rattle.sm_node.specs.Nodes.{Node, numbers}
use Rattle.sm_node.specs.HandedBack.{all_put, AreInPlaces}
use Rattle.sm_node.proofs.Places.{places_full, in_places}
use Rattle.sm_node.proofs.node.Node.into_disks.Goals as goal

pub put_all-requires : goal.put_all-requires
put_all-requires g c = λ m a. subst (λ (xs : List (Option _)). m < length xs) (sym c.deref_mut.ensures.value) (c.self.invariant.0.laid_out.within m a)

pub gather-requires-clause-full : goal.gather-requires-clause-full
gather-requires-clause-full g c =
    let inside = c.self.inside in
    let n : Node _ = record { root = inside.register; seats = inside.seats.items; spares = inside.spares.items; lengths = inside.lengths.items } in
    let items = with_items_is inside.spares c.put_all.new.places (c.put_all.auto.places ∙ c.deref_mut.ensures.len) in
    let put = c.put_all.ensures ∙ (ap (λ (xs : List (Option _)). all_put xs (numbers n.seats) (c.into_disk.result ∷ map device n.seats)) c.deref_mut.ensures.value
    ∙ ap (λ d. all_put n.spares (numbers n.seats) (d ∷ map device n.seats)) c.into_disk.ensures) in
    λ m place e. places_full n c.self.invariant.0.laid_out m place (ap (λ (xs : List (Option _)). slice_get xs m) (sym (items ∙ put)) ∙ e)

pub returns : goal.returns
returns g c =
    let inside = c.self.inside in
    let n : Node _ = record { root = inside.register; seats = inside.seats.items; spares = inside.spares.items; lengths = inside.lengths.items } in
    let items = with_items_is inside.spares c.put_all.new.places (c.put_all.auto.places ∙ c.deref_mut.ensures.len) in
    let put = c.put_all.ensures ∙ (ap (λ (xs : List (Option _)). all_put xs (numbers n.seats) (c.into_disk.result ∷ map device n.seats)) c.deref_mut.ensures.value
    ∙ ap (λ d. all_put n.spares (numbers n.seats) (d ∷ map device n.seats)) c.into_disk.ensures) in
    subst (λ (x : Node _). AreInPlaces x c.gather.result.items) c.self.view_is
    (in_places n c.self.invariant.0.laid_out c.gather.result.items (c.gather.ensures ∙ (items ∙ put)))
