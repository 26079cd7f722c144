use Rattle.std.proofs.Common.{List, sym, ◌∙◌, subst, Result, arith}
use Rattle.std.specs.Prelude.{OnOk, Option}
use Rattle.std.specs.Vec.{with_items}
use Rattle.std.proofs.lemmas.List.{with_items_is}
use Rattle.sm_node.specs.Pending.{IsLong}
use Rattle.sm_node.specs.Seats.{Seated}
use Rattle.sm_node.specs.Nodes.{Node}
use Rattle.sm_node.specs.Turning.{SparesTurn, SparesSynced, NodeTurns, AllBack, VolumeFailed, SeatFailed}
use Rattle.sm_node.proofs.NodeTurning.{turned_err, node_turns, node_turned, stuck, root_failed, volume_failed}
use Rattle.sm_node.proofs.SpareTurning.{spares_stay}
use Rattle.sm_node.proofs.node.Node.restart_disks.Goals as goal

pub returns-in-Err-clause-turns : goal.returns-in-Err-clause-turns
returns-in-Err-clause-turns g c =
    let state = g.D.Disk.state in
    let n : Node _ = record { root = c.self.inside.register; seats = c.self.inside.seats.items; spares = c.self.inside.spares.items; lengths = c.self.inside.lengths.items } in
    subst (λ (x : Node _). NodeTurns state x c.args.side.now (record n { root = c.restart.new.self }) c.args.side.now) c.self.view_is
    (stuck state n c.restart.new.self c.args.side.now (turned_err state n.root c.restart.new.self c.restart.result c.in-Err.field-0 c.in-Err.is c.restart.ensures))

pub returns-in-Err-clause-failed : goal.returns-in-Err-clause-failed
returns-in-Err-clause-failed g c =
    let state = g.D.Disk.state in
    let n : Node _ = record { root = c.self.inside.register; seats = c.self.inside.seats.items; spares = c.self.inside.spares.items; lengths = c.self.inside.lengths.items } in
    subst (λ (x : Node _). SeatFailed state x (record { 0 = 0 }) c.faults.result (record n { root = c.restart.new.self })) c.self.view_is
    (root_failed state n c.restart.new.self c.restart.result c.in-Err.field-0 c.faults.result c.in-Err.is c.restart.ensures c.faults.ensures)

pub invariant_of-self : goal.invariant_of-self
invariant_of-self g c =
    let state = g.D.Disk.state in
    let n : Node _ = record { root = c.self.inside.register; seats = c.self.inside.seats.items; spares = c.self.inside.spares.items; lengths = c.self.inside.lengths.items } in
    let long = subst (λ (x : Node _). IsLong x) (sym c.self.view_is) c.requires.long in
    let s = c.args.side.now in
    let turns = stuck state n c.restart.new.self s (turned_err state n.root c.restart.new.self c.restart.result c.in-Err.field-0 c.in-Err.is c.restart.ensures) in
    (node_turned state n (record n { root = c.restart.new.self }) s s turns long c.self.invariant.0, c.self.invariant.1, c.self.invariant.2)

pub invariant_of-self-in-Err-restart_seats : goal.invariant_of-self-in-Err-restart_seats
invariant_of-self-in-Err-restart_seats g c =
    let state = g.D.Disk.state in
    let n : Node _ = record { root = c.self.inside.register; seats = c.self.inside.seats.items; spares = c.self.inside.spares.items; lengths = c.self.inside.lengths.items } in
    let news = c.restart_seats.new.seats in
    let items = with_items_is c.self.inside.seats news (c.restart_seats.auto.seats ∙ c.deref_mut.ensures.len) in
    let turns = node_turns state n c.restart.new.self c.restart.result c.in-Ok.read c.in-Ok.is c.restart.ensures c.args.side.now c.join.result c.restart_seats.new.side c.join.ensures
    c.deref_mut.result.now news (with_items c.self.inside.seats news).items c.deref_mut.ensures.value items c.restart_seats.ensures.turns n.spares (spares_stay state n.spares) in
    let long = subst (λ (x : Node _). IsLong x) (sym c.self.view_is) c.requires.long in
    (node_turned state n (record n { root = c.restart.new.self; seats = (with_items c.self.inside.seats news).items }) c.args.side.now c.restart_seats.new.side turns long c.self.invariant.0, c.self.invariant.1, c.self.invariant.2)

pub returns-in-Err-restart_seats-clause-turns : goal.returns-in-Err-restart_seats-clause-turns
returns-in-Err-restart_seats-clause-turns g c =
    let state = g.D.Disk.state in
    let n : Node _ = record { root = c.self.inside.register; seats = c.self.inside.seats.items; spares = c.self.inside.spares.items; lengths = c.self.inside.lengths.items } in
    let news = c.restart_seats.new.seats in
    let items = with_items_is c.self.inside.seats news (c.restart_seats.auto.seats ∙ c.deref_mut.ensures.len) in
    let turns = node_turns state n c.restart.new.self c.restart.result c.in-Ok.read c.in-Ok.is c.restart.ensures c.args.side.now c.join.result c.restart_seats.new.side c.join.ensures
    c.deref_mut.result.now news (with_items c.self.inside.seats news).items c.deref_mut.ensures.value items c.restart_seats.ensures.turns n.spares (spares_stay state n.spares) in
    subst (λ (x : Node _). NodeTurns state x c.args.side.now (record n { root = c.restart.new.self; seats = (with_items c.self.inside.seats news).items }) c.restart_seats.new.side) c.self.view_is turns

pub returns-in-Err-restart_seats-clause-failed : goal.returns-in-Err-restart_seats-clause-failed
returns-in-Err-restart_seats-clause-failed g c =
    let state = g.D.Disk.state in
    let n : Node _ = record { root = c.self.inside.register; seats = c.self.inside.seats.items; spares = c.self.inside.spares.items; lengths = c.self.inside.lengths.items } in
    let news = c.restart_seats.new.seats in
    let items = with_items_is c.self.inside.seats news (c.restart_seats.auto.seats ∙ c.deref_mut.ensures.len) in
    let all = (with_items c.self.inside.seats news).items in
    let e = c.in-Err-restart_seats.failed in
    let failed : VolumeFailed state c.deref_mut.result.now e.0 e.1 news = c.in-Err-restart_seats.ensures.failed in
    let here = subst (λ (ss : List (Seated _)). VolumeFailed state ss e.0 e.1 all) c.deref_mut.ensures.value (subst (λ (ss : List (Seated _)). VolumeFailed state c.deref_mut.result.now e.0 e.1 ss) (sym items) failed) in
    let n' : Node _ = record n { root = c.restart.new.self; seats = all } in
    subst (λ (x : Node _). SeatFailed state x e.0 e.1 n') c.self.view_is (volume_failed state n n' e.0 e.1 here)

pub invariant_of-self-2 : goal.invariant_of-self-2
invariant_of-self-2 g c =
    let state = g.D.Disk.state in
    let n : Node _ = record { root = c.self.inside.register; seats = c.self.inside.seats.items; spares = c.self.inside.spares.items; lengths = c.self.inside.lengths.items } in
    let news = c.restart_seats.new.seats in
    let items = with_items_is c.self.inside.seats news (c.restart_seats.auto.seats ∙ c.deref_mut.ensures.len) in
    let spares = c.restart_spares.new.spares in
    let spares_is = with_items_is c.self.inside.spares spares (c.restart_spares.auto.spares ∙ c.deref_mut-2.ensures.len) in
    let rest = subst (λ (xs : List (Option _)). SparesTurn state n.spares xs) (sym spares_is) (subst (λ (xs : List (Option _)). SparesTurn state xs spares) c.deref_mut-2.ensures.value c.restart_spares.ensures.turns) in
    let turns = node_turns state n c.restart.new.self c.restart.result c.in-Ok.read c.in-Ok.is c.restart.ensures c.args.side.now c.join.result c.restart_seats.new.side c.join.ensures
    c.deref_mut.result.now news (with_items c.self.inside.seats news).items c.deref_mut.ensures.value items c.restart_seats.ensures.turns (with_items c.self.inside.spares spares).items rest in
    let long = subst (λ (x : Node _). IsLong x) (sym c.self.view_is) c.requires.long in
    let n' : Node _ = record n { root = c.restart.new.self; seats = (with_items c.self.inside.seats news).items; spares = (with_items c.self.inside.spares spares).items } in
    let as_long = rest.as_long in
    (node_turned state n n' c.args.side.now c.restart_seats.new.side turns long c.self.invariant.0, c.self.invariant.1, let le = c.self.invariant.2 in omega (arith, le, as_long))

pub returns-clause-turns : goal.returns-clause-turns
returns-clause-turns g c =
    let state = g.D.Disk.state in
    let n : Node _ = record { root = c.self.inside.register; seats = c.self.inside.seats.items; spares = c.self.inside.spares.items; lengths = c.self.inside.lengths.items } in
    let news = c.restart_seats.new.seats in
    let items = with_items_is c.self.inside.seats news (c.restart_seats.auto.seats ∙ c.deref_mut.ensures.len) in
    let spares = c.restart_spares.new.spares in
    let spares_is = with_items_is c.self.inside.spares spares (c.restart_spares.auto.spares ∙ c.deref_mut-2.ensures.len) in
    let rest = subst (λ (xs : List (Option _)). SparesTurn state n.spares xs) (sym spares_is) (subst (λ (xs : List (Option _)). SparesTurn state xs spares) c.deref_mut-2.ensures.value c.restart_spares.ensures.turns) in
    let turns = node_turns state n c.restart.new.self c.restart.result c.in-Ok.read c.in-Ok.is c.restart.ensures c.args.side.now c.join.result c.restart_seats.new.side c.join.ensures
    c.deref_mut.result.now news (with_items c.self.inside.seats news).items c.deref_mut.ensures.value items c.restart_seats.ensures.turns (with_items c.self.inside.spares spares).items rest in
    let n' : Node _ = record n { root = c.restart.new.self; seats = (with_items c.self.inside.seats news).items; spares = (with_items c.self.inside.spares spares).items } in
    subst (λ (x : Node _). NodeTurns state x c.args.side.now n' c.restart_seats.new.side) c.self.view_is turns

pub returns-clause-back : goal.returns-clause-back
returns-clause-back g c =
    let state = g.D.Disk.state in
    let news = c.restart_seats.new.seats in
    let items = with_items_is c.self.inside.seats news (c.restart_seats.auto.seats ∙ c.deref_mut.ensures.len) in
    let spares = c.restart_spares.new.spares in
    let spares_is = with_items_is c.self.inside.spares spares (c.restart_spares.auto.spares ∙ c.deref_mut-2.ensures.len) in
    let back : AllBack state (with_items c.self.inside.seats news).items = subst (λ (ss : List (Seated _)). AllBack state ss) (sym items) (subst (λ (r : Result _ _). OnOk r (AllBack state news)) c.in_default.is c.restart_seats.ensures.back) in
    record {
      root = c.in-Ok.ensures.ok.2;
      volumes = back;
      synced = record {
        root = c.restart.ensures.synced;
        seats = λ i s e. (back i s e).synced;
        spares = subst (λ (xs : List (Option _)). SparesSynced state xs) (sym spares_is) c.restart_spares.ensures.synced;
      };
    }
