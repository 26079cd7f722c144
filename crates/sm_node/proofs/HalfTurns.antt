-- A node that is down, through a restart of its disks in turn.
use Rattle.std.proofs.Common.{◌≡◌, inl, inr, ℕ, zero, suc, ◌≤◌, List, length, map, sym, ◌∙◌, ap, subst, Some, arith}
use Rattle.std.specs.Prelude.{slice_get, slice_set, Option}
use Rattle.std.proofs.lemmas.Bool.{cases_eq}
use Rattle.std.proofs.lemmas.List.{length-map}
use Rattle.std.proofs.lemmas.Option.{slice_get_within}
use Rattle.sm_base.specs.declared.numbers.Side.{Side}
use Rattle.sm_disk.specs.Image.{Image}
use Rattle.sm_disk.specs.Disk.{DiskState, GoesOn}
use Rattle.sm_disk.proofs.Moments.{begun, joined as goes_joined, weaker, each, at_end}
use Rattle.sm_slots.specs.Stored.{slot_of}
use Rattle.sm_seats.specs.Seats.{Left, SinceStart, GoesWhole}
use Rattle.sm_model.specs.World.{Deed}
use Rattle.sm_node.specs.Seats.{Seated, device, moved}
use Rattle.sm_node.specs.Nodes.{Node}
use Rattle.sm_node.specs.Parts.{devices, part}
use Rattle.sm_node.specs.Turning.{none, more}
use Rattle.sm_node.specs.Turning.{InTurn, NodeTurns}
use Rattle.sm_node.specs.Halved.{IsOpen, FoundAt, IsHalved, ShowsOneOf}
use Rattle.sm_seats.proofs.Lists.{some_at, one_value}
use Rattle.sm_node.proofs.Lists.{get_set_other, get_set_same, mapped_at, mapped_to}
use Rattle.sm_node.proofs.SeatTurning.{turn_long, turn_goes}
use Rattle.sm_node.proofs.HalfSteps.{other_slot}
use Rattle.sm_node.proofs.HalfRoot.{root_half}
use Rattle.sm_node.proofs.HalfVolume.{volume_half}

module _ {D : Type 0} (state : D → DiskState) where
  -- a node that is down shows one world of the pair
  pub halved_shows : (d : Deed) (s : Side) (n : Node D) → IsHalved state d s n → ShowsOneOf state d n
  halved_shows d s n h = λ images left. elim (cases_eq (slot_of (images h.seat)) h.slot) [
    | inl e ↦ inl ((h.shown images left).0 e)
    | inr ne ↦ inr ((h.shown images left).1 (other_slot (images h.seat) h.slot h.one_of_two ne))
  ]

  -- what holds nothing tells nothing
  module _ (d : Deed) (s : Side) (n : Node D) (spares : List (Option D)) where
    open_still : (k : ℕ) → IsOpen (record n { spares = spares }) k → IsOpen n k
    unfolding IsOpen
    open_still zero o = o
    open_still (suc i) o = o

    found_still : (slot k : ℕ) → FoundAt state s slot n k → FoundAt state s slot (record n { spares = spares }) k
    unfolding FoundAt
    found_still slot zero f = f
    found_still slot (suc i) f = f

    spares_half : IsHalved state d s n → IsHalved state d s (record n { spares = spares })
    spares_half h = record {
      seat = h.seat;
      slot = h.slot;
      is_seat = h.is_seat;
      one_of_two = h.one_of_two;
      shown = h.shown;
      decided = record { root = h.decided.root; volumes = h.decided.volumes };
      found = found_still h.slot h.seat h.found;
      held = h.held;
      ahead = λ o. h.ahead (open_still h.seat o);
      long = record { held = h.long.held; after = h.long.after };
      bare_now = h.bare_now;
      bare_ahead = λ o. h.bare_ahead (open_still h.seat o);
    }

  turned_half : (d : Deed) (n : Node D) {olds news : List (Seated D)} {s t : Side} → InTurn state olds s news t → IsHalved state d s (record n { seats = olds }) → IsHalved state d t (record n { seats = news })
  turned_half d n none h = h
  turned_half d n (more {mids = mids} {t = t} i r at old new was turns) h = volume_half state d t (record n { seats = mids }) (turned_half d n i h) at old new was r turns

  pub node_half : (d : Deed) (n n' : Node D) (s t : Side) → NodeTurns state n s n' t → length n.root.held.volumes ≤ length n.seats → IsHalved state d s n → IsHalved state d t n'
  node_half d n n' s t h less is =
      subst (λ (l : List ℕ). IsHalved state d t (record n' { lengths = l })) (sym h.lengths)
      (spares_half d t (record n { root = n'.root; seats = n'.seats }) n'.spares
      (turned_half d (record n { root = n'.root }) h.volumes (root_half state d s n is n'.root h.r h.root less)))

  module _ (n n' : Node D) (s t : Side) (h : NodeTurns state n s n' t) where
    pub devices_as_long : length (devices n') ≡ length (devices n)
    devices_as_long = ap suc (length-map n'.seats device ∙ turn_long state h.volumes ∙ sym (length-map n.seats device))

    pub seat_goes : (k : ℕ) (x y : D) → slice_get (devices n) k ≡ Some x → slice_get (devices n') k ≡ Some y → GoesOn (state x) (state y) (state x).may_leave
    seat_goes zero x y e f =
        let same_x : n.root.disk ≡ x = cc in
        let same_y : n'.root.disk ≡ y = cc in
        subst (λ (z : D). GoesOn (state z) (state y) (state z).may_leave) same_x (subst (λ (z : D). GoesOn (state n.root.disk) (state z) (state n.root.disk).may_leave) same_y h.root.goes)
    seat_goes (suc i) x y e f =
        let m = mapped_at device n.seats i x e in
        let k = turn_goes state h.volumes i m.0 m.1 in
        let same_y : device k.0 ≡ y = one_value (slice_get (map device n'.seats) i) (device k.0) y (mapped_to device n'.seats i k.0 k.1) f in
        subst (λ (z : D). GoesOn (state z) (state y) (state z).may_leave) m.2 (subst (λ (z : D). GoesOn (state (device m.0)) (state z) (state (device m.0)).may_leave) same_y k.2)

    -- an image from any moment of the restart is one from its start
    from_start : (images : ℕ → Image) → SinceStart state (devices n) (devices n') images → Left state (devices n) images
    from_start images left = λ k b f.
        let y = some_at (devices n') k (let lt = slice_get_within (devices n) k b f in let long = devices_as_long in omega (arith, lt, long)) in
        each (state b) (state y.0) (state b).may_leave (seat_goes k b y.0 f y.1) (λ c may. may) (images k) (left k b y.0 f y.1)

    -- the crash clause of a restart
    pub turns_whole : (d : Deed) → (is : IsHalved state d s n) → GoesWhole state is.seat (part d.old) (part d.new) (devices n) (devices n')
    turns_whole d is = record {
      images = λ images left.
          let shown = is.shown images (from_start images left) in
          elim (cases_eq (slot_of (images is.seat)) is.slot) [
            | inl e ↦ inl (shown.0 e)
            | inr ne ↦
                let after = shown.1 (other_slot (images is.seat) is.slot is.one_of_two ne) in
                inr (after is.seat is.is_seat, λ at_the_end. after)
          ];
      as_long = devices_as_long;
      later = λ k x y e f. (seat_goes k x y e f).later;
      told = λ k x y e f. (seat_goes k x y e f).told;
      counted = λ k x y e f. (seat_goes k x y e f).faults;
    }
