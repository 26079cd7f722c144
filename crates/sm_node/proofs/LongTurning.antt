-- The disks of a node are as long as before, through a restart.
use Rattle.std.proofs.Common.{◌≡◌, ℕ, List, refl, sym, ◌∙◌, ap, subst, Some, None, arith}
use Rattle.std.specs.Prelude.{slice_get, Option}
use Rattle.std.proofs.lemmas.Option.{same_Some, slice_get_within}
use Rattle.sm_base.specs.declared.numbers.Side.{Side}
use Rattle.sm_disk.specs.Disk.{DiskState}
use Rattle.sm_node.specs.Seats.{Seated, disk_number, device}
use Rattle.sm_node.specs.Nodes.{Node, AreAsLong}
use Rattle.sm_node.specs.Turning.{SpareTurns, NodeTurns}
use Rattle.sm_seats.proofs.Lists.{some_at, one_value}
use Rattle.sm_node.proofs.Lists.{mapped_to}
use Rattle.sm_node.proofs.SeatTurning.{turn_long, turn_numbers, turn_goes}

module _ {D : Type 0} (state : D → DiskState) where
  came_from : (x : Option D) (y : D) → SpareTurns state x (Some y) → (d : D) × (x ≡ Some d) × ((state y).size ≡ (state d).size)
  came_from None y h = absurd h
  came_from (Some d) y h = (d, refl, h.size)

  pub long_through : (n n' : Node D) (s t : Side) → NodeTurns state n s n' t → AreAsLong state n → AreAsLong state n'
  long_through n n' s t h long = record {
    root = ap (λ (ls : List ℕ). slice_get ls 0) h.lengths ∙ long.root ∙ ap (λ (k : ℕ). Some k) (sym h.root.goes.size);
    seats = λ i y e.
        let x = some_at n.seats i (let lt = slice_get_within n'.seats i y e in let same = turn_long state h.volumes in omega (arith, lt, same)) in
        let z = turn_goes state h.volumes i x.0 x.1 in
        let is : z.0 ≡ y = one_value (slice_get n'.seats i) z.0 y z.1 e in
        let size = subst (λ (u : Seated D). (state (device u)).size ≡ (state (device x.0)).size) is z.2.size in
        let at_new = ap (λ (ns : List ℕ). slice_get ns i) (turn_numbers state h.volumes) in
        let disk : y.disk ≡ x.0.disk = same_Some y.disk x.0.disk (sym (mapped_to disk_number n'.seats i y e) ∙ at_new ∙ mapped_to disk_number n.seats i x.0 x.1) in
        ap (λ (ls : List ℕ). slice_get ls y.disk) h.lengths ∙ ap (λ (k : ℕ). slice_get n.lengths k) disk ∙ long.seats i x.0 x.1 ∙ ap (λ (k : ℕ). Some k) (sym size);
    spares = λ k y e.
        let x = some_at n.spares k (let lt = slice_get_within n'.spares k (Some y) e in let same = h.spares.as_long in omega (arith, lt, same)) in
        let d = came_from x.0 y (h.spares.each k x.0 (Some y) x.1 e) in
        ap (λ (ls : List ℕ). slice_get ls k) h.lengths ∙ long.spares k d.0 (x.1 ∙ ap (λ (o : Option D). Some o) d.1) ∙ ap (λ (l : ℕ). Some l) (sym d.2);
  }
