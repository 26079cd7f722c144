-- How often the disks of a node have failed, through a restart.
use Rattle.std.proofs.Common.{◌≡◌, ℕ, ◌≤◌, ◌+◌, ◌-◌, ◌^◌, min, List, ◌∷◌, length, map, sym, ◌∙◌, ap, subst, refl, Some, None, inl, inr, arith}
use Rattle.std.specs.Prelude.{slice_get, slice_set, Option}
use Rattle.std.proofs.lemmas.Bool.{cases_eq}
use Rattle.std.proofs.lemmas.Option.{same_Some, slice_get_within}
use Rattle.sm_base.specs.declared.numbers.DiskNo.{DiskNo}
use Rattle.sm_base.specs.declared.numbers.Side.{Side}
use Rattle.sm_disk.specs.Disk.{DiskState}
use Rattle.sm_node.specs.Seats.{Seated, disk_number, device}
use Rattle.sm_node.specs.Nodes.{Node, numbers, IsLaidOut, IsNode}
use Rattle.sm_node.specs.Turning.{whole, cut}
use Rattle.sm_node.specs.Turning.{SpareTurns, NodeTurns, IsTrimmed, SeatFailed}
use Rattle.sm_node.specs.Counted.{KeepsNumbers, HasCounted, CountsStay, CountRises}
use Rattle.sm_seats.proofs.Lists.{some_at, one_value}
use Rattle.sm_node.proofs.Lists.{get_set_other, get_set_same, mapped_to}
use Rattle.sm_node.proofs.Trimming.{get_front, get_last, last_within}
use Rattle.sm_node.proofs.SeatTurning.{turn_long, turn_numbers, turn_goes}
use Rattle.sm_node.proofs.Counts.{counted_at, counted_beside}

module _ {D : Type 0} (state : D → DiskState) where
  -- ---- a restart

  came_from : (x : Option D) (y : D) → SpareTurns state x (Some y) → (d : D) × (x ≡ Some d) × ((state d).faults ≤ (state y).faults)
  came_from None y h = absurd h
  came_from (Some d) y h = (d, refl, h.faults)

  pub counts_through : (n n' : Node D) (s t : Side) → NodeTurns state n s n' t → CountsStay state n n'
  counts_through n n' s t h = λ counts has. record {
    root = let before = has.root in let grown = h.root.goes.faults in omega (arith, before, grown);
    seats = λ i y e.
        let x = some_at n.seats i (let lt = slice_get_within n'.seats i y e in let same = turn_long state h.volumes in omega (arith, lt, same)) in
        let z = turn_goes state h.volumes i x.0 x.1 in
        let is : z.0 ≡ y = one_value (slice_get n'.seats i) z.0 y z.1 e in
        let grown = subst (λ (u : Seated D). (state (device x.0)).faults ≤ (state (device u)).faults) is z.2.faults in
        let at_new = ap (λ (ns : List ℕ). slice_get ns i) (turn_numbers state h.volumes) in
        let disk : y.disk ≡ x.0.disk = same_Some y.disk x.0.disk (sym (mapped_to disk_number n'.seats i y e) ∙ at_new ∙ mapped_to disk_number n.seats i x.0 x.1) in
        subst (λ (k : ℕ). counts k ≤ (state (device y)).faults) (sym disk) (let before = has.seats i x.0 x.1 in omega (arith, before, grown));
    spares = λ k y e.
        let x = some_at n.spares k (let lt = slice_get_within n'.spares k (Some y) e in let same = h.spares.as_long in omega (arith, lt, same)) in
        let d = came_from x.0 y (h.spares.each k x.0 (Some y) x.1 e) in
        let grown = d.2 in
        let before = has.spares k d.0 (x.1 ∙ ap (λ (o : Option D). Some o) d.1) in
        omega (arith, before, grown);
  }

  pub keeps_through : (n n' : Node D) (s t : Side) → NodeTurns state n s n' t → KeepsNumbers n n'
  keeps_through n n' s t h = λ seat number e. ap (λ (ns : List ℕ). slice_get (0 ∷ ns) seat) (turn_numbers state h.volumes) ∙ e

  pub counts_trimmed : {n n' : Node D} → IsTrimmed n n' → IsNode state n → CountsStay state n n'
  counts_trimmed (whole as_many) is = λ counts has. has
  counts_trimmed (cut {n = n} front last seats few) is = λ counts has. record {
    root = has.root;
    seats = λ i s e. has.seats i s (ap (λ (ss : List (Seated D)). slice_get ss i) seats ∙ get_front front last i s e);
    spares = λ k x e. elim (cases_eq k last.disk) [
      | inl same ↦
          let here : slice_get (slice_set n.spares last.disk (Some (device last))) last.disk ≡ Some (Some x) = subst (λ (j : ℕ). slice_get (slice_set n.spares last.disk (Some (device last))) j ≡ Some (Some x)) same e in
          let there = get_set_same n.spares last.disk (Some (device last)) (last_within front last state n is seats) in
          let found : device last ≡ x = same_Some (device last) x (same_Some (Some (device last)) (Some x) (sym there ∙ here)) in
          let counted = has.seats (length front) last (ap (λ (ss : List (Seated D)). slice_get ss (length front)) seats ∙ get_last front last) in
          subst (λ (j : ℕ). counts j ≤ (state x).faults) (sym same) (subst (λ (y : D). counts last.disk ≤ (state y).faults) found counted)
      | inr ne ↦ has.spares k x (sym (get_set_other n.spares last.disk k (Some (device last)) ne) ∙ e)
    ];
  }

  -- the disk at a seat failed, and no count fell
  pub seat_rises : (old new : Node D) → IsLaidOut new.seats new.spares new.lengths → KeepsNumbers old new → CountsStay state old new
      → (disk : DiskNo) (count : ℕ) → SeatFailed state old disk count new → CountRises state disk count old new
  seat_rises old new is keeps stay disk count failed = λ counts has. (
    let before = counted_at state counts old has failed.seat disk.0 failed.was failed.named failed.before in
        let risen = failed.counted in
        let counts_is = failed.counts in
        omega (arith, before, risen, counts_is),
    counted_beside state new is failed.seat disk.0 count failed.now (keeps failed.seat disk.0 failed.named) failed.after (let counts_is = failed.counts in omega (arith, counts_is)) counts (stay counts has),
  )
