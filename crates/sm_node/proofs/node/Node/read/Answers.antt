use Rattle.std.proofs.Common.{◌≡◌, List, length, refl, sym, ap, ◌∙◌, subst, Some, arith}
use Rattle.std.specs.Prelude.{slice_get}
use Rattle.std.proofs.lemmas.List.{with_items_is}
use Rattle.std.proofs.lemmas.Option.{slice_get_within}
use Rattle.std.proofs.lemmas.Result.{err_from_is_err_and}
use Rattle.sm_model.specs.OfVolumes as answers
use Rattle.sm_node.specs.Seats.{Seated, AllUp}
use Rattle.sm_node.specs.Nodes.{Node, world_of, IsNode}
use Rattle.sm_node.specs.Parts.{StandsUp}
use Rattle.sm_node.specs.Moves.{MovesOne}
use Rattle.sm_node.specs.Naming.{IsNamed, IsNamedAt}
use Rattle.sm_node.specs.Looking.{IsReadCall}
use Rattle.sm_node.proofs.LookLemmas.{look_refused, look_starved}
use Rattle.sm_node.proofs.ReadEvents.{read_none, read_unseen, read_moved, read_keeps}
use Rattle.sm_node.proofs.node.Node.read.Goals as goal

pub returns-in_err-refusal-clause-looks : goal.returns-in_err-refusal-clause-looks
returns-in_err-refusal-clause-looks g c =
    let now = c.args.self.now in
    let p = err_from_is_err_and c.from_residual.result c.from_residual.ensures.1 in
    look_starved g.D.Disk.state now c.told_up.ensures (answers.read (world_of now) c.args.path.now c.args.name.now c.args.place) c.from_residual.result p.0 p.1 p.2

pub returns-in_err-refusal-in-Ok-clause-looks : goal.returns-in_err-refusal-in-Ok-clause-looks
returns-in_err-refusal-in-Ok-clause-looks g c =
    let now = c.args.self.now in
    let p = err_from_is_err_and c.from_residual-in_err-refusal-in-Ok.result c.from_residual-in_err-refusal-in-Ok.ensures.1 in
    look_starved g.D.Disk.state now c.told_up.ensures (answers.read (world_of now) c.args.path.now c.args.name.now c.args.place) c.from_residual-in_err-refusal-in-Ok.result p.0 p.1 p.2

pub returns-in_err-block-in-Ok-2-clause-looks : goal.returns-in_err-block-in-Ok-2-clause-looks
returns-in_err-block-in-Ok-2-clause-looks g c =
    let now = c.args.self.now in
    let p = err_from_is_err_and c.from_residual-in_err-block-in-Ok-2.result c.from_residual-in_err-block-in-Ok-2.ensures.1 in
    look_starved g.D.Disk.state now c.told_up.ensures (answers.read (world_of now) c.args.path.now c.args.name.now c.args.place) c.from_residual-in_err-block-in-Ok-2.result p.0 p.1 p.2

pub returns-in-Err-clause-looks : goal.returns-in-Err-clause-looks
returns-in-Err-clause-looks g c =
    let now = c.args.self.now in
    look_refused g.D.Disk.state now c.told_up.ensures (answers.read (world_of now) c.args.path.now c.args.name.now c.args.place) c.in-Err.refusal _ refl
    (read_none (world_of now) c.args.path.now c.args.name.now c.args.place c.in-Err.refusal (subst (IsNamed now c.args.path.now) c.in-Err.is c.in_ok-refusal.ensures))

pub returns-in-Err-2-clause-looks : goal.returns-in-Err-2-clause-looks
returns-in-Err-2-clause-looks g c =
    let now = c.args.self.now in
    let named : IsNamedAt now c.args.path.now c.in-Ok.found = subst (IsNamed now c.args.path.now) c.in-Ok.is c.in_ok-refusal.ensures in
    let there = subst (λ (seats : List (Seated _)). slice_get seats c.in-Ok.found.at ≡ Some named.seat) (sym c.seats.ensures) named.is_seat in
    look_refused g.D.Disk.state now c.told_up.ensures (answers.read (world_of now) c.args.path.now c.args.name.now c.args.place) c.in-Err-2.refusal _ refl
    (read_unseen now c.args.path.now c.in-Ok.found named c.args.name.now c.args.place c.in-Err-2.refusal (sym (c.in_ok-refusal-in-Ok.ensures named.place named.seat there) ∙ c.in-Err-2.is))

pub view_at-requires : goal.view_at-requires
view_at-requires g c =
    let now = c.args.self.now in
    let named : IsNamedAt now c.args.path.now c.in-Ok.found = subst (IsNamed now c.args.path.now) c.in-Ok.is c.in_ok-refusal.ensures in
    omega (arith, slice_get_within now.seats c.in-Ok.found.at named.seat named.is_seat, ap length c.seats.ensures)

pub read_at-requires-clause-place : goal.read_at-requires-clause-place
read_at-requires-clause-place g c =
    let now = c.args.self.now in
    let named : IsNamedAt now c.args.path.now c.in-Ok.found = subst (IsNamed now c.args.path.now) c.in-Ok.is c.in_ok-refusal.ensures in
    let seats = c.deref_mut.ensures.value ∙ ap (λ (x : Node _). x.seats) c.self.view_is in
    omega (arith, slice_get_within now.seats c.in-Ok.found.at named.seat named.is_seat, ap length seats)

pub read_at-requires-clause-up : goal.read_at-requires-clause-up
read_at-requires-clause-up g c = subst (λ (seats : List (Seated _)). AllUp seats) (sym (c.deref_mut.ensures.value ∙ ap (λ (x : Node _). x.seats) c.self.view_is)) c.requires.up.volumes

pub invariant_of-self : goal.invariant_of-self
invariant_of-self g c =
    let state = g.D.Disk.state in
    let now = c.args.self.now in
    let n : Node _ = record { root = c.self.inside.register; seats = c.self.inside.seats.items; spares = c.self.inside.spares.items; lengths = c.self.inside.lengths.items } in
    let view = c.self.view_is in
    let path = c.args.path.now in
    let up = subst (λ (x : Node _). StandsUp state x) (sym view) c.told_up.ensures in
    let named_now : IsNamedAt now path c.in-Ok.found = subst (IsNamed now path) c.in-Ok.is c.in_ok-refusal.ensures in
    let named = subst (λ (x : Node _). IsNamedAt x path c.in-Ok.found) (sym view) named_now in
    let items = with_items_is c.self.inside.seats c.read_at.new.seats (c.read_at.auto.seats ∙ c.deref_mut.ensures.len) in
    let call = IsReadCall state c.in-Ok.found.disk c.in-Ok-2.view c.args.place c.read_at.result in
    let moves = subst (λ (seats : List (Seated _)). MovesOne state c.in-Ok.found.at call seats c.read_at.new.seats) c.deref_mut.ensures.value c.read_at.ensures in (
      subst (λ (seats : List (Seated _)). IsNode state (record n { seats = seats })) (sym items)
          (read_keeps state n up path c.in-Ok.found named c.read_at.result c.read_at.new.seats c.args.name.now c.args.place c.in-Ok-2.view moves),
      c.self.invariant.1,
      c.self.invariant.2,
    )

pub returns-in_ok-block-in-Ok-2-clause-looks : goal.returns-in_ok-block-in-Ok-2-clause-looks
returns-in_ok-block-in-Ok-2-clause-looks g c =
    let state = g.D.Disk.state in
    let now = c.args.self.now in
    let n : Node _ = record { root = c.self.inside.register; seats = c.self.inside.seats.items; spares = c.self.inside.spares.items; lengths = c.self.inside.lengths.items } in
    let view = c.self.view_is in
    let path = c.args.path.now in
    let up = subst (λ (x : Node _). StandsUp state x) (sym view) c.told_up.ensures in
    let named_now : IsNamedAt now path c.in-Ok.found = subst (IsNamed now path) c.in-Ok.is c.in_ok-refusal.ensures in
    let named = subst (λ (x : Node _). IsNamedAt x path c.in-Ok.found) (sym view) named_now in
    let items = with_items_is c.self.inside.seats c.read_at.new.seats (c.read_at.auto.seats ∙ c.deref_mut.ensures.len) in
    let call = IsReadCall state c.in-Ok.found.disk c.in-Ok-2.view c.args.place c.read_at.result in
    let moves = subst (λ (seats : List (Seated _)). MovesOne state c.in-Ok.found.at call seats c.read_at.new.seats) c.deref_mut.ensures.value c.read_at.ensures in
    let there = subst (λ (seats : List (Seated _)). slice_get seats c.in-Ok.found.at ≡ Some named_now.seat) (sym c.seats.ensures) named_now.is_seat in
    read_moved state now n (sym view) c.told_up.ensures path c.in-Ok.found named_now c.args.name.now c.args.place c.in-Ok-2.view
    (sym (c.in_ok-refusal-in-Ok.ensures named_now.place named_now.seat there) ∙ c.in-Ok-2.is) c.read_at.result c.read_at.new.seats _ moves items
