use Rattle.std.proofs.Common.{◌≡◌, List, length, refl, sym, ap, ◌∙◌, subst, Some, arith}
use Rattle.std.specs.Prelude.{slice_get}
use Rattle.std.proofs.lemmas.List.{with_items_is}
use Rattle.std.proofs.lemmas.Option.{slice_get_within}
use Rattle.std.proofs.lemmas.Result.{err_from_is_err_and}
use Rattle.sm_catroot.specs.Catalog.{Catalog}
use Rattle.sm_model.specs.OfVolumes as answers
use Rattle.sm_node.specs.Seats.{Seated, AllUp}
use Rattle.sm_node.specs.Nodes.{Node, placed, world_of, world_with, IsNode}
use Rattle.sm_node.specs.Parts.{StandsUp}
use Rattle.sm_node.specs.Moves.{MovesOne}
use Rattle.sm_node.specs.Naming.{IsNamed, IsNamedAt}
use Rattle.sm_node.specs.Removing.{removal}
use Rattle.sm_node.proofs.Events.{none_acts, none_starved}
use Rattle.sm_node.proofs.SnapMatching.{unsnap_none, unsnap_refused}
use Rattle.sm_node.proofs.SnapEvents.{IsRemoveCall, unsnap_keeps, removed_by}
use Rattle.sm_node.proofs.node.Node.unsnap.Goals as goal

pub returns-in_err-refusal-clause-acts : goal.returns-in_err-refusal-clause-acts
returns-in_err-refusal-clause-acts g c =
    let now = c.args.self.now in
    let p = err_from_is_err_and c.from_residual.result c.from_residual.ensures.1 in
    none_starved g.D.Disk.state now c.told_up.ensures (answers.unsnap (world_of now) c.args.path.now c.args.name.now) c.from_residual.result p.0 p.1 p.2

pub returns-in_err-refusal-in-Ok-clause-acts : goal.returns-in_err-refusal-in-Ok-clause-acts
returns-in_err-refusal-in-Ok-clause-acts g c =
    let now = c.args.self.now in
    let p = err_from_is_err_and c.from_residual-in_err-refusal-in-Ok.result c.from_residual-in_err-refusal-in-Ok.ensures.1 in
    none_starved g.D.Disk.state now c.told_up.ensures (answers.unsnap (world_of now) c.args.path.now c.args.name.now) c.from_residual-in_err-refusal-in-Ok.result p.0 p.1 p.2

pub returns-in-Err-clause-acts : goal.returns-in-Err-clause-acts
returns-in-Err-clause-acts g c =
    let now = c.args.self.now in
    none_acts g.D.Disk.state now c.told_up.ensures (answers.unsnap (world_of now) c.args.path.now c.args.name.now) c.in-Err.refusal _ refl
    (unsnap_none (world_of now) c.args.path.now c.args.name.now c.in-Err.refusal (subst (IsNamed now c.args.path.now) c.in-Err.is c.in_ok-refusal.ensures))

pub overflow_cast-number : goal.overflow_cast-number
overflow_cast-number g c =
    let now = c.args.self.now in
    let named : IsNamedAt now c.args.path.now c.in-Ok.found = subst (IsNamed now c.args.path.now) c.in-Ok.is c.in_ok-refusal.ensures in
    let within = slice_get_within now.seats c.in-Ok.found.at named.seat named.is_seat in
    let few = c.told_up.ensures.node.few in
    omega (arith, within, few)

pub may_remove-requires-clause-place : goal.may_remove-requires-clause-place
may_remove-requires-clause-place g c =
    let now = c.args.self.now in
    let named : IsNamedAt now c.args.path.now c.in-Ok.found = subst (IsNamed now c.args.path.now) c.in-Ok.is c.in_ok-refusal.ensures in
    omega (arith, slice_get_within now.seats c.in-Ok.found.at named.seat named.is_seat, ap length c.seats.ensures)

pub remove_at-requires-clause-place : goal.remove_at-requires-clause-place
remove_at-requires-clause-place g c =
    let now = c.args.self.now in
    let named : IsNamedAt now c.args.path.now c.in-Ok.found = subst (IsNamed now c.args.path.now) c.in-Ok.is c.in_ok-refusal.ensures in
    let seats = c.deref_mut.ensures.value ∙ ap (λ (x : Node _). x.seats) c.self.view_is in
    omega (arith, slice_get_within now.seats c.in-Ok.found.at named.seat named.is_seat, ap length seats)

pub remove_at-requires-clause-up : goal.remove_at-requires-clause-up
remove_at-requires-clause-up g c = subst (λ (seats : List (Seated _)). AllUp seats) (sym (c.deref_mut.ensures.value ∙ ap (λ (x : Node _). x.seats) c.self.view_is)) c.requires.up.volumes

pub returns-in-Err-2-clause-acts : goal.returns-in-Err-2-clause-acts
returns-in-Err-2-clause-acts g c =
    let now = c.args.self.now in
    let named : IsNamedAt now c.args.path.now c.in-Ok.found = subst (IsNamed now c.args.path.now) c.in-Ok.is c.in_ok-refusal.ensures in
    let v = placed named.place named.seat.volume in
    let there = subst (λ (seats : List (Seated _)). slice_get seats c.in-Ok.found.at ≡ Some named.seat) (sym c.seats.ensures) named.is_seat in
    let is_removal = c.in_ok-refusal-in-Ok.ensures now.lengths named.place named.seat there
    ∙ ap (λ (k : Catalog). removal (world_with k c.seats.result.now now.lengths) c.in-Ok.found.at v c.args.name.now) c.catalog.ensures
    ∙ ap (λ (seats : List (Seated _)). removal (world_with now.root.held seats now.lengths) c.in-Ok.found.at v c.args.name.now) c.seats.ensures in
    none_acts g.D.Disk.state now c.told_up.ensures (answers.unsnap (world_of now) c.args.path.now c.args.name.now) c.in-Err-2.refusal _ refl
    (unsnap_refused (world_of now) c.args.path.now c.args.name.now (record { at = c.in-Ok.found.at; item = v }) c.in-Err-2.refusal named.names (sym is_removal ∙ c.in-Err-2.is))

pub invariant_of-self : goal.invariant_of-self
invariant_of-self g c =
    let state = g.D.Disk.state in
    let now = c.args.self.now in
    let n : Node _ = record { root = c.self.inside.register; seats = c.self.inside.seats.items; spares = c.self.inside.spares.items; lengths = c.self.inside.lengths.items } in
    let view = c.self.view_is in
    let path = c.args.path.now in
    let up = subst (λ (x : Node _). StandsUp state x) (sym view) c.told_up.ensures in
    let named_now : IsNamedAt now path c.in-Ok.found = subst (IsNamed now path) c.in-Ok.is c.in_ok-refusal.ensures in
    let named = subst (λ (x : Node _). IsNamedAt x path c.in-Ok.found) (sym view) named_now in
    let items = with_items_is c.self.inside.seats c.remove_at.new.seats (c.remove_at.auto.seats ∙ c.deref_mut.ensures.len) in
    let call = IsRemoveCall state c.in-Ok-2.ident c.in-Ok.found.disk c.remove_at.result in
    let moves = subst (λ (seats : List (Seated _)). MovesOne state c.in-Ok.found.at call seats c.remove_at.new.seats) c.deref_mut.ensures.value c.remove_at.ensures in (
      subst (λ (seats : List (Seated _)). IsNode state (record n { seats = seats })) (sym items)
          (unsnap_keeps state n up path c.in-Ok.found named c.remove_at.result c.remove_at.new.seats c.in-Ok-2.ident moves),
      c.self.invariant.1,
      c.self.invariant.2,
    )

pub returns-in-Ok-2-clause-acts : goal.returns-in-Ok-2-clause-acts
returns-in-Ok-2-clause-acts g c =
    let state = g.D.Disk.state in
    let now = c.args.self.now in
    let n : Node _ = record { root = c.self.inside.register; seats = c.self.inside.seats.items; spares = c.self.inside.spares.items; lengths = c.self.inside.lengths.items } in
    let view = c.self.view_is in
    let path = c.args.path.now in
    let up = subst (λ (x : Node _). StandsUp state x) (sym view) c.told_up.ensures in
    let named_now : IsNamedAt now path c.in-Ok.found = subst (IsNamed now path) c.in-Ok.is c.in_ok-refusal.ensures in
    let named = subst (λ (x : Node _). IsNamedAt x path c.in-Ok.found) (sym view) named_now in
    let items = with_items_is c.self.inside.seats c.remove_at.new.seats (c.remove_at.auto.seats ∙ c.deref_mut.ensures.len) in
    let call = IsRemoveCall state c.in-Ok-2.ident c.in-Ok.found.disk c.remove_at.result in
    let moves = subst (λ (seats : List (Seated _)). MovesOne state c.in-Ok.found.at call seats c.remove_at.new.seats) c.deref_mut.ensures.value c.remove_at.ensures in
    let v = placed named_now.place named_now.seat.volume in
    let there = subst (λ (seats : List (Seated _)). slice_get seats c.in-Ok.found.at ≡ Some named_now.seat) (sym c.seats.ensures) named_now.is_seat in
    let is_removal = c.in_ok-refusal-in-Ok.ensures now.lengths named_now.place named_now.seat there
    ∙ ap (λ (k : Catalog). removal (world_with k c.seats.result.now now.lengths) c.in-Ok.found.at v c.args.name.now) c.catalog.ensures
    ∙ ap (λ (seats : List (Seated _)). removal (world_with now.root.held seats now.lengths) c.in-Ok.found.at v c.args.name.now) c.seats.ensures in
    removed_by state now n (sym view) c.told_up.ensures path c.in-Ok.found named_now c.args.name.now c.in-Ok-2.ident (sym is_removal ∙ c.in-Ok-2.is) c.remove_at.result c.remove_at.new.seats _ moves items
