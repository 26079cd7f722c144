use Rattle.std.proofs.Common.{◌≡◌, ◌<◌, ◌≤◌, List, length, refl, sym, ap, ◌∙◌, subst, Some, None, Option, arith}
use Rattle.std.specs.Prelude.{slice_get, slice_set}
use Rattle.std.specs.Vec.{with_items}
use Rattle.std.proofs.lemmas.List.{with_items_is, length-set}
use Rattle.std.proofs.lemmas.Option.{slice_get_within}
use Rattle.std.proofs.lemmas.Result.{err_from_is_err_and}
use Rattle.sm_defs.specs.Volume.{length_needed}
use Rattle.sm_node.specs.Seats.{Seated}
use Rattle.sm_node.specs.Nodes.{Node, world_of}
use Rattle.sm_node.specs.Acts.{Acts}
use Rattle.sm_node.specs.Creating.{created, IsAtHand}
use Rattle.sm_node.proofs.Events.{none_starved}
use Rattle.sm_node.proofs.Created.{made_here, acts_here, back_here, back_acts_here}
use Rattle.sm_node.proofs.node.Node.make.Goals as goal

pub returns-in_err-reserve_seat : goal.returns-in_err-reserve_seat
returns-in_err-reserve_seat g c =
    let state = g.D.Disk.state in
    let now = c.args.self.now in
    let n : Node _ = record { root = c.self.inside.register; seats = c.self.inside.seats.items; spares = c.self.inside.spares.items; lengths = c.self.inside.lengths.items } in
    let p = err_from_is_err_and c.from_residual.result c.from_residual.ensures.1 in
    let same : record n { seats = c.reserve_seat.new.seats.items } ≡ now = ap (λ (ss : List (Seated _)). let x : Node _ = record n { seats = ss } in x) c.reserve_seat.ensures.same ∙ c.self.view_is in
    record {
      acts = λ path is. subst (λ (x : Node _). Acts state (created (world_of now) path c.args.disk c.args.kind c.args.logical c.args.physical) now c.from_residual.result x) (sym same)
          (none_starved state now c.told_up.ensures (created (world_of now) path c.args.disk c.args.kind c.args.logical c.args.physical) c.from_residual.result p.0 p.1 p.2);
    }

pub take_spare-device-requires-clause-there : goal.take_spare-device-requires-clause-there
take_spare-device-requires-clause-there g c =
    subst (λ (xs : List (Option _)). IsAtHand xs c.args.disk.0) (sym (c.deref_mut.ensures.value ∙ ap (λ (x : Node _). x.spares) c.self.view_is)) c.requires.at_hand

pub take_spare-device-requires-clause-within : goal.take_spare-device-requires-clause-within
take_spare-device-requires-clause-within g c =
    let spares = c.deref_mut.ensures.value ∙ ap (λ (x : Node _). x.spares) c.self.view_is in
    subst (λ (xs : List (Option _)). c.args.disk.0 < length xs) (sym spares) (slice_get_within c.args.self.now.spares c.args.disk.0 (Some c.requires.at_hand.0) c.requires.at_hand.1)

pub make_on-requires-clause-long : goal.make_on-requires-clause-long
make_on-requires-clause-long g c =
    let spares = c.deref_mut.ensures.value ∙ ap (λ (x : Node _). x.spares) c.self.view_is in
    let there = subst (λ (xs : List (Option _)). slice_get xs c.args.disk.0 ≡ Some (Some c.take_spare-device.result)) spares c.take_spare-device.ensures.was in
    c.requires.long (g.D.Disk.state c.take_spare-device.result).size (c.told_up.ensures.node.long.spares c.args.disk.0 c.take_spare-device.result there)

pub put_back-requires : goal.put_back-requires
put_back-requires g c =
    let spares = c.deref_mut.ensures.value ∙ ap (λ (x : Node _). x.spares) c.self.view_is in
    let items = with_items_is c.self.inside.spares c.take_spare-device.new.spares (c.take_spare-device.auto.spares ∙ c.deref_mut.ensures.len) in
    let lt = slice_get_within c.deref_mut.result.now c.args.disk.0 (Some c.take_spare-device.result) c.take_spare-device.ensures.was in
    let long = length-set c.deref_mut.result.now c.args.disk.0 None in
    let all = ap length (c.deref_mut-in-Err.ensures.value ∙ items ∙ c.take_spare-device.ensures.is) in
    omega (arith, lt, long, all)

pub invariant_of-self-in-Ok : goal.invariant_of-self-in-Ok
invariant_of-self-in-Ok g c =
    let state = g.D.Disk.state in
    let n : Node _ = record { root = c.self.inside.register; seats = c.self.inside.seats.items; spares = c.self.inside.spares.items; lengths = c.self.inside.lengths.items } in
    let items = with_items_is c.self.inside.spares c.take_spare-device.new.spares (c.take_spare-device.auto.spares ∙ c.deref_mut.ensures.len) in
    let number : c.len-number.result ≡ length n.seats = c.len-number.ensures ∙ c.self.inside.seats.ok.0 in
    let long = ap length (items ∙ c.take_spare-device.ensures.is ∙ ap (λ (xs : List (Option _)). slice_set xs c.args.disk.0 None) c.deref_mut.ensures.value) ∙ length-set n.spares c.args.disk.0 None in
    let room = c.self.invariant.2 in (
      made_here state n c.args.self.now c.self.view_is c.told_up.ensures c.requires.few c.args.disk c.take_spare-device.result
          c.deref_mut.result.now c.take_spare-device.new.spares (with_items c.self.inside.spares c.take_spare-device.new.spares).items c.deref_mut.ensures.value c.take_spare-device.ensures items
          c.requires.next.0 c.args.kind c.args.logical c.args.physical c.len-number.result number c.in-Ok.volume c.in-Ok.ensures.made c.commit_as.new.register c.args.next c.requires.next.1
          c.reserve_seat.new.seats.items c.push_reserved.new.self.items c.reserve_seat.ensures.same c.push_reserved.ensures.items c.commit_as.result c.commit_as.ensures,
      c.self.invariant.1,
      omega (arith, long, room),
    )

pub returns-in-Ok : goal.returns-in-Ok
returns-in-Ok g c =
    let state = g.D.Disk.state in
    let n : Node _ = record { root = c.self.inside.register; seats = c.self.inside.seats.items; spares = c.self.inside.spares.items; lengths = c.self.inside.lengths.items } in
    let items = with_items_is c.self.inside.spares c.take_spare-device.new.spares (c.take_spare-device.auto.spares ∙ c.deref_mut.ensures.len) in
    let number : c.len-number.result ≡ length n.seats = c.len-number.ensures ∙ c.self.inside.seats.ok.0 in
    record {
      acts = λ path is.
          acts_here state n c.args.self.now c.self.view_is c.told_up.ensures c.requires.few c.args.disk c.take_spare-device.result
          c.deref_mut.result.now c.take_spare-device.new.spares (with_items c.self.inside.spares c.take_spare-device.new.spares).items c.deref_mut.ensures.value c.take_spare-device.ensures items
          path c.args.kind c.args.logical c.args.physical c.len-number.result number c.in-Ok.volume c.in-Ok.ensures.made c.commit_as.new.register c.args.next is
          c.reserve_seat.new.seats.items c.push_reserved.new.self.items c.reserve_seat.ensures.same c.push_reserved.ensures.items c.commit_as.result c.commit_as.ensures;
    }

pub invariant_of-self-in-Err-1 : goal.invariant_of-self-in-Err-1
invariant_of-self-in-Err-1 g c =
    let state = g.D.Disk.state in
    let n : Node _ = record { root = c.self.inside.register; seats = c.self.inside.seats.items; spares = c.self.inside.spares.items; lengths = c.self.inside.lengths.items } in
    let taken = with_items c.self.inside.spares c.take_spare-device.new.spares in
    let items = with_items_is c.self.inside.spares c.take_spare-device.new.spares (c.take_spare-device.auto.spares ∙ c.deref_mut.ensures.len) in
    let again = with_items_is taken c.put_back.new.spares (c.put_back.auto.spares ∙ c.deref_mut-in-Err.ensures.len) in
    let long = ap length (again ∙ c.put_back.ensures ∙ ap (λ (xs : List (Option _)). slice_set xs c.args.disk.0 (Some c.in-Err.device)) (c.deref_mut-in-Err.ensures.value ∙ items ∙ c.take_spare-device.ensures.is ∙ ap (λ (xs : List (Option _)). slice_set xs c.args.disk.0 None) c.deref_mut.ensures.value))
    ∙ length-set (slice_set n.spares c.args.disk.0 None) c.args.disk.0 (Some c.in-Err.device) ∙ length-set n.spares c.args.disk.0 None in
    let room = c.self.invariant.2 in (
      back_here state n c.args.self.now c.self.view_is c.told_up.ensures c.requires.few c.args.disk c.take_spare-device.result
          c.deref_mut.result.now c.take_spare-device.new.spares taken.items c.deref_mut.ensures.value c.take_spare-device.ensures items
          c.requires.next.0 c.args.kind c.args.logical c.args.physical c.in-Err.device c.in-Err.fault c.in-Err.ensures.unmade c.reserve_seat.new.seats.items c.reserve_seat.ensures.same
          c.deref_mut-in-Err.result.now c.put_back.new.spares (with_items taken c.put_back.new.spares).items c.deref_mut-in-Err.ensures.value c.put_back.ensures again,
      c.self.invariant.1,
      omega (arith, long, room),
    )

pub returns-in-Err : goal.returns-in-Err
returns-in-Err g c =
    let state = g.D.Disk.state in
    let n : Node _ = record { root = c.self.inside.register; seats = c.self.inside.seats.items; spares = c.self.inside.spares.items; lengths = c.self.inside.lengths.items } in
    let taken = with_items c.self.inside.spares c.take_spare-device.new.spares in
    let items = with_items_is c.self.inside.spares c.take_spare-device.new.spares (c.take_spare-device.auto.spares ∙ c.deref_mut.ensures.len) in
    let again = with_items_is taken c.put_back.new.spares (c.put_back.auto.spares ∙ c.deref_mut-in-Err.ensures.len) in
    record {
      acts = λ path is.
          back_acts_here state n c.args.self.now c.self.view_is c.told_up.ensures c.requires.few c.args.disk c.take_spare-device.result
          c.deref_mut.result.now c.take_spare-device.new.spares taken.items c.deref_mut.ensures.value c.take_spare-device.ensures items
          path c.args.kind c.args.logical c.args.physical c.in-Err.device c.in-Err.fault c.in-Err.ensures.unmade c.reserve_seat.new.seats.items c.reserve_seat.ensures.same
          c.deref_mut-in-Err.result.now c.put_back.new.spares (with_items taken c.put_back.new.spares).items c.deref_mut-in-Err.ensures.value c.put_back.ensures again;
    }
