use Rattle.std.proofs.Common.{◌≡◌, List, map, length, refl, sym, ap, ◌∙◌, subst, Some, arith}
use Rattle.std.specs.Prelude.{slice_get}
use Rattle.std.proofs.lemmas.Option.{slice_get_within, slice_get_read}
use Rattle.std.proofs.lemmas.Result.{err_from_is_err_and}
use Rattle.sm_model.specs.OfReport as reports
use Rattle.sm_node.specs.Seats.{Seated}
use Rattle.sm_node.specs.Nodes.{placed, world_of}
use Rattle.sm_node.specs.Naming.{IsNamed, IsNamedAt}
use Rattle.sm_seats.proofs.Lists.{one_value}
use Rattle.sm_node.proofs.Events.{none_acts, none_starved}
use Rattle.sm_node.proofs.ShownLemmas.{shown, shows_none, shows_is}
use Rattle.sm_node.proofs.node.Node.show_snapshots.Goals as goal

pub returns-in_err-refusal : goal.returns-in_err-refusal
returns-in_err-refusal g c =
    let now = c.args.self.now in
    let p = err_from_is_err_and c.from_residual.result c.from_residual.ensures.1 in
    none_starved g.D.Disk.state now c.told_up.ensures (reports.show_snapshots (world_of now) c.args.path.now) c.from_residual.result p.0 p.1 p.2

pub returns-in_err-lines-in-Ok : goal.returns-in_err-lines-in-Ok
returns-in_err-lines-in-Ok g c =
    let now = c.args.self.now in
    let p = err_from_is_err_and c.from_residual-in_err-lines-in-Ok.result c.from_residual-in_err-lines-in-Ok.ensures.1 in
    none_starved g.D.Disk.state now c.told_up.ensures (reports.show_snapshots (world_of now) c.args.path.now) c.from_residual-in_err-lines-in-Ok.result p.0 p.1 p.2

pub overflow_cast-number : goal.overflow_cast-number
overflow_cast-number g c =
    let now = c.args.self.now in
    let named : IsNamedAt now c.args.path.now c.in-Ok.found = subst (IsNamed now c.args.path.now) c.in-Ok.is c.in_ok-refusal.ensures in
    let within = slice_get_within now.seats c.in-Ok.found.at named.seat named.is_seat in
    let few = c.told_up.ensures.node.few in
    omega (arith, within, few)

pub offset_bounds-seats-found : goal.offset_bounds-seats-found
offset_bounds-seats-found g c =
    let now = c.args.self.now in
    let named : IsNamedAt now c.args.path.now c.in-Ok.found = subst (IsNamed now c.args.path.now) c.in-Ok.is c.in_ok-refusal.ensures in
    omega (arith, slice_get_within now.seats c.in-Ok.found.at named.seat named.is_seat, ap length c.seats.ensures)

pub bounds-seats-found : goal.bounds-seats-found
bounds-seats-found g c =
    let now = c.args.self.now in
    let named : IsNamedAt now c.args.path.now c.in-Ok.found = subst (IsNamed now c.args.path.now) c.in-Ok.is c.in_ok-refusal.ensures in
    omega (arith, slice_get_within now.seats c.in-Ok.found.at named.seat named.is_seat, ap length c.seats.ensures)

pub returns-in-Err : goal.returns-in-Err
returns-in-Err g c =
    let now = c.args.self.now in
    none_acts g.D.Disk.state now c.told_up.ensures (reports.show_snapshots (world_of now) c.args.path.now) c.in-Err.refusal _ refl
    (shows_none (world_of now) c.args.path.now c.in-Err.refusal (subst (IsNamed now c.args.path.now) c.in-Err.is c.in_ok-refusal.ensures))

pub returns-in_ok-lines-in-Ok : goal.returns-in_ok-lines-in-Ok
returns-in_ok-lines-in-Ok g c =
    let now = c.args.self.now in
    let named : IsNamedAt now c.args.path.now c.in-Ok.found = subst (IsNamed now c.args.path.now) c.in-Ok.is c.in_ok-refusal.ensures in
    let at = c.in-Ok.found.at in
    let s = c.index-seats-found.result in
    let within = slice_get_within now.seats at named.seat named.is_seat in
    let there = subst (λ (seats : List (Seated _)). slice_get seats at ≡ Some s) c.seats.ensures (slice_get_read c.seats.result.now _ at s refl (omega (arith, within, ap length c.seats.ensures)) c.index-seats-found.is) in
    let same : named.seat ≡ s = one_value (slice_get now.seats at) named.seat s named.is_seat there in
    shown g.D.Disk.state now c.told_up.ensures (reports.show_snapshots (world_of now) c.args.path.now) _
    (shows_is (world_of now) c.args.path.now at (placed named.place named.seat.volume) c.in_ok-lines-in-Ok.lines.items named.names
    (c.in_ok-lines-in-Ok.ensures ∙ ap (λ (x : Seated _). map (reports.listed_line (record { 0 = at })) x.volume.volume.snapshots) (sym same)))
