use Rattle.std.proofs.Common.{◌≡◌, List, length, refl, sym, ap, ◌∙◌, subst, false, Some, arith}
use Rattle.std.specs.Prelude.{slice_get}
use Rattle.std.proofs.lemmas.List.{with_items_is}
use Rattle.std.proofs.lemmas.Option.{slice_get_within}
use Rattle.std.proofs.lemmas.Result.{err_from_is_err_and}
use Rattle.sm_base.specs.declared.numbers.Ident.{Ident}
use Rattle.sm_defs.specs.Volume.{has}
use Rattle.sm_catroot.specs.Catalog.{Catalog}
use Rattle.sm_model.specs.OfVolumes as answers
use Rattle.sm_node.specs.Seats.{Seated, AllUp}
use Rattle.sm_node.specs.Nodes.{Node, world_of, IsNode}
use Rattle.sm_node.specs.Parts.{StandsUp}
use Rattle.sm_node.specs.Moves.{MovesOne}
use Rattle.sm_node.specs.Naming.{IsNamed, IsNamedAt}
use Rattle.sm_node.proofs.Events.{none_acts, none_starved}
use Rattle.sm_node.proofs.SnapMatching.{snap_none}
use Rattle.sm_node.proofs.SnapEvents.{IsSnapCall, ident_is_new, snap_keeps, snapped_by}
use Rattle.sm_node.proofs.node.Node.snap.Goals as goal

pub returns-in_err-refusal-clause-acts : goal.returns-in_err-refusal-clause-acts
returns-in_err-refusal-clause-acts g c =
    let now = c.args.self.now in
    let p = err_from_is_err_and c.from_residual.result c.from_residual.ensures.1 in
    none_starved g.D.Disk.state now c.told_up.ensures (answers.snap (world_of now) c.args.path.now c.args.name.now c.args.label.now) c.from_residual.result p.0 p.1 p.2

pub returns-in_err-name-in-Ok-clause-acts : goal.returns-in_err-name-in-Ok-clause-acts
returns-in_err-name-in-Ok-clause-acts g c =
    let now = c.args.self.now in
    let p = err_from_is_err_and c.from_residual-in_err-name-in-Ok.result c.from_residual-in_err-name-in-Ok.ensures.1 in
    none_starved g.D.Disk.state now c.told_up.ensures (answers.snap (world_of now) c.args.path.now c.args.name.now c.args.label.now) c.from_residual-in_err-name-in-Ok.result p.0 p.1 p.2

pub returns-in_err-label-in-Ok-clause-acts : goal.returns-in_err-label-in-Ok-clause-acts
returns-in_err-label-in-Ok-clause-acts g c =
    let now = c.args.self.now in
    let p = err_from_is_err_and c.from_residual-in_err-label-in-Ok.result c.from_residual-in_err-label-in-Ok.ensures.1 in
    none_starved g.D.Disk.state now c.told_up.ensures (answers.snap (world_of now) c.args.path.now c.args.name.now c.args.label.now) c.from_residual-in_err-label-in-Ok.result p.0 p.1 p.2

pub returns-in-Err-clause-acts : goal.returns-in-Err-clause-acts
returns-in-Err-clause-acts g c =
    let now = c.args.self.now in
    none_acts g.D.Disk.state now c.told_up.ensures (answers.snap (world_of now) c.args.path.now c.args.name.now c.args.label.now) c.in-Err.refusal _ refl
    (snap_none (world_of now) c.args.path.now c.args.name.now c.args.label.now c.in-Err.refusal (subst (IsNamed now c.args.path.now) c.in-Err.is c.in_ok-refusal.ensures))

pub next_ident-ident-requires-clause-place : goal.next_ident-ident-requires-clause-place
next_ident-ident-requires-clause-place g c =
    let now = c.args.self.now in
    let named : IsNamedAt now c.args.path.now c.in-Ok.found = subst (IsNamed now c.args.path.now) c.in-Ok.is c.in_ok-refusal.ensures in
    let seats = c.deref.ensures.value ∙ ap (λ (x : Node _). x.seats) c.self.view_is in
    omega (arith, slice_get_within now.seats c.in-Ok.found.at named.seat named.is_seat, ap length seats)

pub snap_at-requires-clause-place : goal.snap_at-requires-clause-place
snap_at-requires-clause-place g c =
    let now = c.args.self.now in
    let named : IsNamedAt now c.args.path.now c.in-Ok.found = subst (IsNamed now c.args.path.now) c.in-Ok.is c.in_ok-refusal.ensures in
    let seats = c.deref_mut.ensures.value ∙ ap (λ (x : Node _). x.seats) c.self.view_is in
    omega (arith, slice_get_within now.seats c.in-Ok.found.at named.seat named.is_seat, ap length seats)

pub snap_at-requires-clause-up : goal.snap_at-requires-clause-up
snap_at-requires-clause-up g c = subst (λ (seats : List (Seated _)). AllUp seats) (sym (c.deref_mut.ensures.value ∙ ap (λ (x : Node _). x.seats) c.self.view_is)) c.requires.up.volumes

pub snap_at-requires-clause-new : goal.snap_at-requires-clause-new
snap_at-requires-clause-new g c =
    let now = c.args.self.now in
    let named : IsNamedAt now c.args.path.now c.in-Ok.found = subst (IsNamed now c.args.path.now) c.in-Ok.is c.in_ok-refusal.ensures in
    let at = c.in-Ok.found.at in
    λ s is.
    let inner = subst (λ (seats : List (Seated _)). slice_get seats at ≡ Some s) c.deref_mut.ensures.value is in
    let there = subst (λ (x : Node _). slice_get x.seats at ≡ Some s) c.self.view_is inner in
    let own = c.next_ident-ident.ensures s (subst (λ (seats : List (Seated _)). slice_get seats at ≡ Some s) (sym c.deref.ensures.value) inner) in
    subst (λ (i : Ident). has s.volume.volume.snapshots i ≡ false) (sym own) (ident_is_new now c.args.path.now c.in-Ok.found named c.requires.new s there)

pub invariant_of-self : goal.invariant_of-self
invariant_of-self g c =
    let state = g.D.Disk.state in
    let now = c.args.self.now in
    let n : Node _ = record { root = c.self.inside.register; seats = c.self.inside.seats.items; spares = c.self.inside.spares.items; lengths = c.self.inside.lengths.items } in
    let view = c.self.view_is in
    let path = c.args.path.now in
    let up = subst (λ (x : Node _). StandsUp state x) (sym view) c.told_up.ensures in
    let named_now : IsNamedAt now path c.in-Ok.found = subst (IsNamed now path) c.in-Ok.is c.in_ok-refusal.ensures in
    let named = subst (λ (x : Node _). IsNamedAt x path c.in-Ok.found) (sym view) named_now in
    let items = with_items_is c.self.inside.seats c.snap_at.new.seats (c.snap_at.auto.seats ∙ c.deref_mut.ensures.len) in
    let call = IsSnapCall state c.next_ident-ident.result c.in-Ok.found.disk c.in_ok-name-in-Ok.name c.in_ok-label-in-Ok.label c.clock_of-time.result c.snap_at.result in
    let moves = subst (λ (seats : List (Seated _)). MovesOne state c.in-Ok.found.at call seats c.snap_at.new.seats) c.deref_mut.ensures.value c.snap_at.ensures in (
      subst (λ (seats : List (Seated _)). IsNode state (record n { seats = seats })) (sym items)
          (snap_keeps state n up path c.in-Ok.found named c.snap_at.result c.snap_at.new.seats c.in_ok-name-in-Ok.name c.in_ok-label-in-Ok.label c.next_ident-ident.result c.clock_of-time.result moves),
      c.self.invariant.1,
      c.self.invariant.2,
    )

pub returns-in_ok-label-in-Ok-clause-acts : goal.returns-in_ok-label-in-Ok-clause-acts
returns-in_ok-label-in-Ok-clause-acts g c =
    let state = g.D.Disk.state in
    let now = c.args.self.now in
    let n : Node _ = record { root = c.self.inside.register; seats = c.self.inside.seats.items; spares = c.self.inside.spares.items; lengths = c.self.inside.lengths.items } in
    let view = c.self.view_is in
    let path = c.args.path.now in
    let up = subst (λ (x : Node _). StandsUp state x) (sym view) c.told_up.ensures in
    let named_now : IsNamedAt now path c.in-Ok.found = subst (IsNamed now path) c.in-Ok.is c.in_ok-refusal.ensures in
    let named = subst (λ (x : Node _). IsNamedAt x path c.in-Ok.found) (sym view) named_now in
    let items = with_items_is c.self.inside.seats c.snap_at.new.seats (c.snap_at.auto.seats ∙ c.deref_mut.ensures.len) in
    let call = IsSnapCall state c.next_ident-ident.result c.in-Ok.found.disk c.in_ok-name-in-Ok.name c.in_ok-label-in-Ok.label c.clock_of-time.result c.snap_at.result in
    let moves = subst (λ (seats : List (Seated _)). MovesOne state c.in-Ok.found.at call seats c.snap_at.new.seats) c.deref_mut.ensures.value c.snap_at.ensures in
    let time = c.clock_of-time.ensures ∙ ap (λ (k : Catalog). k.clock) c.catalog.ensures in
    let own : (s : Seated _) → slice_get n.seats c.in-Ok.found.at ≡ Some s → c.next_ident-ident.result ≡ answers.client_ident c.in-Ok.found.at s.volume.volume =
    λ s is. c.next_ident-ident.ensures s (subst (λ (seats : List (Seated _)). slice_get seats c.in-Ok.found.at ≡ Some s) (sym c.deref.ensures.value) is) in
    snapped_by state now n (sym view) c.told_up.ensures path c.in-Ok.found named_now c.args.name.now c.in_ok-name-in-Ok.name c.args.label.now c.in_ok-label-in-Ok.label c.in_ok-name-in-Ok.ensures c.in_ok-label-in-Ok.ensures
    c.next_ident-ident.result c.clock_of-time.result time own c.snap_at.result c.snap_at.new.seats _ moves items
