use Rattle.std.proofs.Common.{◌≡◌, ◌<◌, ◌≤◌, suc, length, sym, ap, ◌∙◌, subst, arith}
use Rattle.std.proofs.lemmas.List.{length-set}
use Rattle.std.specs.Prelude.{slice_set, Some}
use Rattle.sm_catroot.specs.Catalog.{Catalog}
use Rattle.sm_node.specs.Nodes.{Node}
use Rattle.sm_node.specs.Turning.{IsTrimmed}
use Rattle.sm_node.proofs.Trimming.{taken_within, taken_node, taken_trims}
use Rattle.sm_node.proofs.node.Node.trim.Goals as goal

pub returns-then-len : goal.returns-then-len
returns-then-len g c =
    let n : Node _ = record { root = c.self.inside.register; seats = c.self.inside.seats.items; spares = c.self.inside.spares.items; lengths = c.self.inside.lengths.items } in
    let seats = c.len.ensures ∙ c.self.inside.seats.ok.0 in
    let volumes = c.len-2.ensures ∙ c.behind-self.inside.volumes.ok.0 in
    let held = ap (λ (k : Catalog). length k.volumes) (c.behind-self.view_is ∙ c.held.ensures) in
    let least = c.self.invariant.0.as_many in
    let most = c.if-len.true in
    let as_many : length n.seats ≡ length n.root.held.volumes = omega (arith, seats, volumes, held, least, most) in
    IsTrimmed.whole (subst (λ (x : Node _). length x.seats ≡ length x.root.held.volumes) c.self.view_is as_many)

pub take_last-device-requires : goal.take_last-device-requires
take_last-device-requires g c =
    let seats = c.len.ensures ∙ c.self.inside.seats.ok.0 in
    let more = c.if-len.false in
    record { some = omega (arith, seats, more) }

pub index_mut-requires : goal.index_mut-requires
index_mut-requires g c =
    let n : Node _ = record { root = c.self.inside.register; seats = c.self.inside.seats.items; spares = c.self.inside.spares.items; lengths = c.self.inside.lengths.items } in
    let within = taken_within n c.take_last-device.result.0 c.take_last-device.result.1 c.take_last-device.new.seats.items c.take_last-device.ensures g.D.Disk.state c.self.invariant.0 in
    let all = c.self.inside.spares.ok.0 in
    omega (arith, within, all)

pub invariant_of-self : goal.invariant_of-self
invariant_of-self g c =
    let n : Node _ = record { root = c.self.inside.register; seats = c.self.inside.seats.items; spares = c.self.inside.spares.items; lengths = c.self.inside.lengths.items } in
    let seats = c.len.ensures ∙ c.self.inside.seats.ok.0 in
    let volumes = c.len-2.ensures ∙ c.behind-self.inside.volumes.ok.0 in
    let held = ap (λ (k : Catalog). length k.volumes) (c.behind-self.view_is ∙ c.held.ensures) in
    let more = c.if-len.false in
    let less : length n.root.held.volumes < length n.seats = omega (arith, seats, volumes, held, more) in
    let long = subst (λ (x : Node _). length x.seats ≤ suc (length x.root.held.volumes)) (sym c.self.view_is) c.requires.long in
    let t = c.take_last-device in
    let kept = length-set n.spares t.result.0.0 (Some t.result.1) in
    let room = c.self.invariant.2 in
    (taken_node n t.result.0 t.result.1 t.new.seats.items t.ensures g.D.Disk.state c.self.invariant.0 less long, c.self.invariant.1, omega (arith, kept, room))

pub returns : goal.returns
returns g c =
    let n : Node _ = record { root = c.self.inside.register; seats = c.self.inside.seats.items; spares = c.self.inside.spares.items; lengths = c.self.inside.lengths.items } in
    let seats = c.len.ensures ∙ c.self.inside.seats.ok.0 in
    let volumes = c.len-2.ensures ∙ c.behind-self.inside.volumes.ok.0 in
    let held = ap (λ (k : Catalog). length k.volumes) (c.behind-self.view_is ∙ c.held.ensures) in
    let more = c.if-len.false in
    let less : length n.root.held.volumes < length n.seats = omega (arith, seats, volumes, held, more) in
    let long = subst (λ (x : Node _). length x.seats ≤ suc (length x.root.held.volumes)) (sym c.self.view_is) c.requires.long in
    let t = c.take_last-device in
    let n' : Node _ = record n { seats = t.new.seats.items; spares = slice_set n.spares t.result.0.0 (Some t.result.1) } in
    subst (λ (x : Node _). IsTrimmed x n') c.self.view_is (taken_trims n t.result.0 t.result.1 t.new.seats.items t.ensures less long)
