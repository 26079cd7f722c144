use Rattle.std.proofs.Common.{◌≡◌, IsSome, List, length, sym, ap, ◌∙◌, subst, Some, arith}
use Rattle.std.specs.Prelude.{slice_get}
use Rattle.std.proofs.lemmas.List.{with_items_is}
use Rattle.std.proofs.lemmas.Option.{slice_get_within}
use Rattle.std.proofs.lemmas.Result.{err_from_is_err_and, IfOk-weaker}
use Rattle.sm_catroot.specs.Catalog.{Catalog}
use Rattle.sm_model.specs.OfReport as reports
use Rattle.sm_model.specs.Telling.{told_by}
use Rattle.sm_node.specs.Seats.{Seated, AllUp}
use Rattle.sm_node.specs.Nodes.{Node, placed, world_of, IsNode}
use Rattle.sm_node.specs.Moves.{MovesOne}
use Rattle.sm_seats.proofs.Lists.{one_value}
use Rattle.sm_node.proofs.LookLemmas.{look_starved}
use Rattle.sm_node.proofs.ReadEvents.{seated_at, place_within, stands_so, idents_differ, digest_moved, digest_moved_keeps}
use Rattle.std.proofs.lemmas.Option.{get_or_from_slice_get}
use Rattle.sm_root.specs.declared.root.Root.{Root}
use Rattle.sm_volume.specs.Seen.{root_of}
use Rattle.sm_volume.specs.Refusals.{image_seen}
use Rattle.sm_node.specs.Looking.{IsDigestCall, IsImageLine}
use Rattle.sm_node.specs.Served.{first_of}
use Rattle.volume_store.specs.declared.io.View.{View}
use Rattle.sm_catroot.specs.declared.placed.Placed.{Placed}
use Rattle.sm_base.specs.declared.numbers.DiskNo.{DiskNo}
use Rattle.sm_defs.specs.World.{volume_at}
use Rattle.sm_node.proofs.node.Node.report_digest.Goals as goal

pub returns-in_err-block-clause-looks : goal.returns-in_err-block-clause-looks
returns-in_err-block-clause-looks g c =
    let now = c.args.self.now in
    let p = err_from_is_err_and c.from_residual.result c.from_residual.ensures.1 in
    look_starved g.D.Disk.state now c.told_up.ensures (reports.of_image (world_of now) c.args.number c.args.place) (first_of c.from_residual.result) p.0 (ap first_of p.1) p.2

pub returns-in_err-line-clause-looks : goal.returns-in_err-line-clause-looks
returns-in_err-line-clause-looks g c =
    let now = c.args.self.now in
    let p = err_from_is_err_and c.from_residual-in_err-line.result c.from_residual-in_err-line.ensures.1 in
    look_starved g.D.Disk.state now c.told_up.ensures (reports.of_image (world_of now) c.args.number c.args.place) (first_of c.from_residual-in_err-line.result) p.0 (ap first_of p.1) p.2

pub returns-in_err-copy-clause-looks : goal.returns-in_err-copy-clause-looks
returns-in_err-copy-clause-looks g c =
    let now = c.args.self.now in
    let p = err_from_is_err_and c.from_residual-in_err-copy.result c.from_residual-in_err-copy.ensures.1 in
    look_starved g.D.Disk.state now c.told_up.ensures (reports.of_image (world_of now) c.args.number c.args.place) (first_of c.from_residual-in_err-copy.result) p.0 (ap first_of p.1) p.2

pub offset_bounds-seats-at : goal.offset_bounds-seats-at
offset_bounds-seats-at g c =
    let now = c.args.self.now in
    let at = c.args.number.0 in
    let t = seated_at now at c.told_up.ensures.up.as_many c.requires.there in
    let within = slice_get_within now.seats at t.seat t.is_seat in
    omega (arith, within, ap length c.seats.ensures)

pub bounds-seats-at : goal.bounds-seats-at
bounds-seats-at g c =
    let now = c.args.self.now in
    let at = c.args.number.0 in
    let t = seated_at now at c.told_up.ensures.up.as_many c.requires.there in
    let within = slice_get_within now.seats at t.seat t.is_seat in
    omega (arith, within, ap length c.seats.ensures)

pub image_line-requires : goal.image_line-requires
image_line-requires g c =
    let now = c.args.self.now in
    let at = c.args.number.0 in
    let t = seated_at now at c.told_up.ensures.up.as_many c.requires.there in
    let there = subst (λ (seats : List (Seated _)). slice_get seats at ≡ Some t.seat) (sym c.seats.ensures) t.is_seat in
    let seat = c.seat.view_is ∙ c.index-seats-at.is ∙ get_or_from_slice_get c.seats.result.now at t.seat c.index-seats-at.result there in
    let root = c.root-root.ensures ∙ ap (λ (x : Seated _). root_of x.volume.number x.volume.volume) seat in
    place_within (volume_at (world_of now) at) (placed t.place t.seat.volume) c.root-root.result.now.snapshots c.args.place t.volume (ap (λ (r : Root). r.snapshots) root) c.requires.place

pub image_view-view-requires : goal.image_view-view-requires
image_view-view-requires g c =
    let now = c.args.self.now in
    let at = c.args.number.0 in
    let t = seated_at now at c.told_up.ensures.up.as_many c.requires.there in
    let there = subst (λ (seats : List (Seated _)). slice_get seats at ≡ Some t.seat) (sym c.seats.ensures) t.is_seat in
    let seat = c.seat.view_is ∙ c.index-seats-at.is ∙ get_or_from_slice_get c.seats.result.now at t.seat c.index-seats-at.result there in
    let root = c.root-root.ensures ∙ ap (λ (x : Seated _). root_of x.volume.number x.volume.volume) seat in
    place_within (volume_at (world_of now) at) (placed t.place t.seat.volume) c.root-root.result.now.snapshots c.args.place t.volume (ap (λ (r : Root). r.snapshots) root) c.requires.place

pub disk_of-disk-requires : goal.disk_of-disk-requires
disk_of-disk-requires g c =
    let now = c.args.self.now in
    let at = c.args.number.0 in
    let t = seated_at now at c.told_up.ensures.up.as_many c.requires.there in
    let within = slice_get_within now.root.held.volumes at t.place t.is_place in
    omega (arith, within, ap (λ (k : Catalog). length k.volumes) c.catalog.ensures)

pub digest_at-requires-clause-place : goal.digest_at-requires-clause-place
digest_at-requires-clause-place g c =
    let now = c.args.self.now in
    let at = c.args.number.0 in
    let t = seated_at now at c.told_up.ensures.up.as_many c.requires.there in
    let seats = c.deref_mut.ensures.value ∙ ap (λ (x : Node _). x.seats) c.self.view_is in
    omega (arith, slice_get_within now.seats at t.seat t.is_seat, ap length seats)

pub digest_at-requires-clause-up : goal.digest_at-requires-clause-up
digest_at-requires-clause-up g c = subst (λ (seats : List (Seated _)). AllUp seats) (sym (c.deref_mut.ensures.value ∙ ap (λ (x : Node _). x.seats) c.self.view_is)) c.requires.up.volumes

pub digest_at-requires-clause-stands : goal.digest_at-requires-clause-stands
digest_at-requires-clause-stands g c =
    let now = c.args.self.now in
    let at = c.args.number.0 in
    let t = seated_at now at c.told_up.ensures.up.as_many c.requires.there in
    let there = subst (λ (seats : List (Seated _)). slice_get seats at ≡ Some t.seat) (sym c.seats.ensures) t.is_seat in
    let seat = c.seat.view_is ∙ c.index-seats-at.is ∙ get_or_from_slice_get c.seats.result.now at t.seat c.index-seats-at.result there in
    let root = c.root-root.ensures ∙ ap (λ (x : Seated _). root_of x.volume.number x.volume.volume) seat in
    let differ = idents_differ t.seat.volume.volume.snapshots (c.told_up.ensures.node.seated at t.seat t.is_seat).kept.good.idents_differ in
    let il = c.in_ok-line.ensures t.seat.volume.number (placed t.place t.seat.volume) root differ in
    let viewed = c.image_view-view.ensures t.seat.volume.number (placed t.place t.seat.volume) root in
    let line = subst (λ (w : View). IsImageLine c.args.number (placed t.place t.seat.volume) c.args.place w c.in_ok-line.line) (sym viewed) il in
    λ s is.
    let here = subst (λ (seats : List (Seated _)). slice_get seats at ≡ Some s) (c.deref_mut.ensures.value ∙ ap (λ (x : Node _). x.seats) c.self.view_is) is in
    let same : t.seat ≡ s = one_value (slice_get now.seats at) t.seat s t.is_seat here in
    subst (λ (x : Seated _). IsSome (image_seen x.volume.volume c.image_view-view.result)) same (stands_so (image_seen t.seat.volume.volume c.image_view-view.result) line.image line.seen)

pub invariant_of-self : goal.invariant_of-self
invariant_of-self g c =
    let state = g.D.Disk.state in
    let n : Node _ = record { root = c.self.inside.register; seats = c.self.inside.seats.items; spares = c.self.inside.spares.items; lengths = c.self.inside.lengths.items } in
    let items = with_items_is c.self.inside.seats c.digest_at.new.seats (c.digest_at.auto.seats ∙ c.deref_mut.ensures.len) in
    let call = IsDigestCall state c.disk_of-disk.result c.image_view-view.result c.in_ok-line.line (first_of c.digest_at.result) in
    let moves = subst (λ (seats : List (Seated _)). MovesOne state c.args.number.0 call seats c.digest_at.new.seats) c.deref_mut.ensures.value c.digest_at.ensures.moves in (
      subst (λ (seats : List (Seated _)). IsNode state (record n { seats = seats })) (sym items)
          (digest_moved_keeps state c.args.self.now n (sym c.self.view_is) c.told_up.ensures c.args.number c.disk_of-disk.result c.image_view-view.result c.in_ok-line.line (first_of c.digest_at.result) c.digest_at.new.seats moves),
      c.self.invariant.1,
      c.self.invariant.2,
    )

pub returns-clause-looks : goal.returns-clause-looks
returns-clause-looks g c =
    let now = c.args.self.now in
    let at = c.args.number.0 in
    let t = seated_at now at c.told_up.ensures.up.as_many c.requires.there in
    let there = subst (λ (seats : List (Seated _)). slice_get seats at ≡ Some t.seat) (sym c.seats.ensures) t.is_seat in
    let seat = c.seat.view_is ∙ c.index-seats-at.is ∙ get_or_from_slice_get c.seats.result.now at t.seat c.index-seats-at.result there in
    let root = c.root-root.ensures ∙ ap (λ (x : Seated _). root_of x.volume.number x.volume.volume) seat in
    let differ = idents_differ t.seat.volume.volume.snapshots (c.told_up.ensures.node.seated at t.seat t.is_seat).kept.good.idents_differ in
    let il = c.in_ok-line.ensures t.seat.volume.number (placed t.place t.seat.volume) root differ in
    let viewed = c.image_view-view.ensures t.seat.volume.number (placed t.place t.seat.volume) root in
    let line = subst (λ (w : View). IsImageLine c.args.number (placed t.place t.seat.volume) c.args.place w c.in_ok-line.line) (sym viewed) il in
    let state = g.D.Disk.state in
    let n : Node _ = record { root = c.self.inside.register; seats = c.self.inside.seats.items; spares = c.self.inside.spares.items; lengths = c.self.inside.lengths.items } in
    let items = with_items_is c.self.inside.seats c.digest_at.new.seats (c.digest_at.auto.seats ∙ c.deref_mut.ensures.len) in
    let call = IsDigestCall state c.disk_of-disk.result c.image_view-view.result c.in_ok-line.line (first_of c.digest_at.result) in
    let moves = subst (λ (seats : List (Seated _)). MovesOne state c.args.number.0 call seats c.digest_at.new.seats) c.deref_mut.ensures.value c.digest_at.ensures.moves in
    let d = c.disk_of-disk.ensures in
    let place = subst (λ (k : Catalog). slice_get k.volumes at ≡ Some d.0) c.catalog.ensures d.1 in
    let lies = ap (λ (x : DiskNo). x.0) d.2 ∙ ap (λ (p : Placed). p.disk.0) (one_value (slice_get now.root.held.volumes at) d.0 t.place place t.is_place) in
    digest_moved state now n (sym c.self.view_is) c.told_up.ensures c.args.number c.args.place t c.disk_of-disk.result lies c.image_view-view.result c.in_ok-line.line line (first_of c.digest_at.result) c.digest_at.new.seats _ moves items

pub returns-clause-twice : goal.returns-clause-twice
returns-clause-twice g c = IfOk-weaker c.digest_at.result _ _ (λ replies same. ap told_by same) c.digest_at.ensures.twice
