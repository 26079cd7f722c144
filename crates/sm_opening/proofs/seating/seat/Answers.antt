use Rattle.std.proofs.Common.{◌≡◌, ◌++◌, List, Option, Some, length, map, take, drop, slice_get, sym, ap, subst, ◌∙◌}
use Rattle.sm_register.specs.Registered.{Registered}
use Rattle.sm_catroot.specs.Catalog.{Catalog}
use Rattle.sm_node.specs.Nodes.{Node, IsNode}
use Rattle.sm_opening.specs.Seating.{IsMadeOf}
use Rattle.sm_opening.proofs.SeatLemmas.{back_is, hand_is, lent_apart, lent_ready, many_left, node_is, made_is}
use Rattle.std.proofs.lemmas.List.{length-map}
use Rattle.sm_opening.proofs.seating.seat.Goals as goal

pub seat_volumes-requires-clause-apart : goal.seat_volumes-requires-clause-apart
seat_volumes-requires-clause-apart g c =
    let volumes = c.deref.ensures.value ∙ ap (λ (k : Catalog). k.volumes) (c.behind-register.view_is ∙ c.held.ensures) ∙ ap (λ (r : Registered g.row.D.Denot Catalog). r.held.volumes) c.start-register.ensures in
    let hand = hand_is g.D.Disk.state c.args.disks.items c.spare_all.new.spares.len c.spare_all.new.spares.items c.deref_mut.result.now c.take.new.spares (drop (length c.take.new.spares) c.spare_all.new.spares.items) c.deref_mut-2.result.now c.spare_all.new.spares.ok.0 c.spare_all.ensures.spares c.deref_mut.ensures.value c.take.ensures.left c.deref_mut-2.ensures.value in
    lent_apart g.D.Disk.state c.args.disks.items c.args.catalog c.args.founds.items c.deref.result.now volumes c.deref_mut-2.result.now hand c.requires.apart

pub seat_volumes-requires-clause-ready : goal.seat_volumes-requires-clause-ready
seat_volumes-requires-clause-ready g c =
    let volumes = c.deref.ensures.value ∙ ap (λ (k : Catalog). k.volumes) (c.behind-register.view_is ∙ c.held.ensures) ∙ ap (λ (r : Registered g.row.D.Denot Catalog). r.held.volumes) c.start-register.ensures in
    let hand = hand_is g.D.Disk.state c.args.disks.items c.spare_all.new.spares.len c.spare_all.new.spares.items c.deref_mut.result.now c.take.new.spares (drop (length c.take.new.spares) c.spare_all.new.spares.items) c.deref_mut-2.result.now c.spare_all.new.spares.ok.0 c.spare_all.ensures.spares c.deref_mut.ensures.value c.take.ensures.left c.deref_mut-2.ensures.value in
    lent_ready g.D.Disk.state c.args.disks.items c.args.catalog c.args.founds.items c.deref.result.now volumes c.deref_mut-2.result.now hand c.requires.apart c.requires.volumes c.requires.synced.volumes

pub new-requires-clause-node : goal.new-requires-clause-node
new-requires-clause-node g c =
    let volumes = c.deref.ensures.value ∙ ap (λ (k : Catalog). k.volumes) (c.behind-register.view_is ∙ c.held.ensures) ∙ ap (λ (r : Registered g.row.D.Denot Catalog). r.held.volumes) c.start-register.ensures in
    let hand = hand_is g.D.Disk.state c.args.disks.items c.spare_all.new.spares.len c.spare_all.new.spares.items c.deref_mut.result.now c.take.new.spares (drop (length c.take.new.spares) c.spare_all.new.spares.items) c.deref_mut-2.result.now c.spare_all.new.spares.ok.0 c.spare_all.ensures.spares c.deref_mut.ensures.value c.take.ensures.left c.deref_mut-2.ensures.value in
    let taken : slice_get (map Some c.args.disks.items) 0 ≡ Some (Some c.take.result) = ap (λ (l : List (Option g.row.D.Denot)). slice_get l 0) (sym (c.deref_mut.ensures.value ∙ c.spare_all.ensures.spares)) ∙ c.take.ensures.taken in
    let many = many_left g.D.Disk.state c.args.disks.items c.args.catalog c.args.founds.items c.deref.result.now volumes c.deref_mut-2.result.now hand c.requires.apart c.requires.volumes.as_many c.requires.few c.args.lengths.items c.requires.lengths c.requires.catalog.0 c.take.result c.requires.catalog.1 taken c.start-register.result c.start-register.ensures c.seat_volumes.new.spares c.seat_volumes.new.seats.items c.seat_volumes.ensures in
    let len_is : c.spare_all.new.spares.len ≡ length c.seat_volumes.new.spares = c.spare_all.new.spares.ok.0 ∙ ap length c.spare_all.ensures.spares ∙ length-map c.args.disks.items Some ∙ sym many in
    subst (λ (l : List (Option g.row.D.Denot)). IsNode g.D.Disk.state (record { root = c.start-register.result; seats = c.seat_volumes.new.seats.items; spares = l; lengths = c.args.lengths.items }))
    (sym (back_is c.spare_all.new.spares.len c.seat_volumes.new.spares (drop (length c.seat_volumes.new.spares) (take c.spare_all.new.spares.len (c.take.new.spares ++ drop (length c.take.new.spares) c.spare_all.new.spares.items))) len_is))
    (node_is g.D.Disk.state c.args.disks.items c.args.catalog c.args.founds.items c.deref.result.now volumes c.deref_mut-2.result.now hand c.requires.apart c.requires.volumes.as_many c.requires.few c.args.lengths.items c.requires.lengths c.requires.catalog.0 c.take.result c.requires.catalog.1 taken c.start-register.result c.start-register.ensures c.seat_volumes.new.spares c.seat_volumes.new.seats.items c.seat_volumes.ensures)

pub returns : goal.returns
returns g c =
    let volumes = c.deref.ensures.value ∙ ap (λ (k : Catalog). k.volumes) (c.behind-register.view_is ∙ c.held.ensures) ∙ ap (λ (r : Registered g.row.D.Denot Catalog). r.held.volumes) c.start-register.ensures in
    let hand = hand_is g.D.Disk.state c.args.disks.items c.spare_all.new.spares.len c.spare_all.new.spares.items c.deref_mut.result.now c.take.new.spares (drop (length c.take.new.spares) c.spare_all.new.spares.items) c.deref_mut-2.result.now c.spare_all.new.spares.ok.0 c.spare_all.ensures.spares c.deref_mut.ensures.value c.take.ensures.left c.deref_mut-2.ensures.value in
    let taken : slice_get (map Some c.args.disks.items) 0 ≡ Some (Some c.take.result) = ap (λ (l : List (Option g.row.D.Denot)). slice_get l 0) (sym (c.deref_mut.ensures.value ∙ c.spare_all.ensures.spares)) ∙ c.take.ensures.taken in
    let many = many_left g.D.Disk.state c.args.disks.items c.args.catalog c.args.founds.items c.deref.result.now volumes c.deref_mut-2.result.now hand c.requires.apart c.requires.volumes.as_many c.requires.few c.args.lengths.items c.requires.lengths c.requires.catalog.0 c.take.result c.requires.catalog.1 taken c.start-register.result c.start-register.ensures c.seat_volumes.new.spares c.seat_volumes.new.seats.items c.seat_volumes.ensures in
    let len_is : c.spare_all.new.spares.len ≡ length c.seat_volumes.new.spares = c.spare_all.new.spares.ok.0 ∙ ap length c.spare_all.ensures.spares ∙ length-map c.args.disks.items Some ∙ sym many in
    let back = back_is c.spare_all.new.spares.len c.seat_volumes.new.spares (drop (length c.seat_volumes.new.spares) (take c.spare_all.new.spares.len (c.take.new.spares ++ drop (length c.take.new.spares) c.spare_all.new.spares.items))) len_is in
    subst (λ (n : Node g.row.D.Denot). IsMadeOf g.D.Disk.state c.args.disks.items c.args.lengths.items c.args.catalog c.args.founds.items n)
    (sym (c.new.ensures ∙ ap (λ (l : List (Option g.row.D.Denot)). record { root = c.start-register.result; seats = c.seat_volumes.new.seats.items; spares = l; lengths = c.args.lengths.items }) back))
    (made_is g.D.Disk.state c.args.disks.items c.args.catalog c.args.founds.items c.deref.result.now volumes c.deref_mut-2.result.now hand c.requires.apart c.requires.volumes.as_many c.requires.few c.args.lengths.items c.requires.lengths c.requires.catalog.0 c.take.result c.requires.catalog.1 taken c.start-register.result c.start-register.ensures c.seat_volumes.new.spares c.seat_volumes.new.seats.items c.seat_volumes.ensures)
