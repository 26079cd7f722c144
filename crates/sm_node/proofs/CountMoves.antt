-- Where a disk fails in an event its count rises.
use Rattle.std.proofs.Common.{◌≡◌, ℕ, zero, suc, ◌≤◌, ◌+◌, ◌-◌, ◌^◌, min, List, ◌∷◌, length, map, refl, sym, ◌∙◌, ap, subst, Some, arith}
use Rattle.std.specs.Prelude.{slice_get}
use Rattle.std.proofs.lemmas.Option.{slice_get_within}
use Rattle.sm_base.specs.declared.numbers.DiskNo.{DiskNo}
use Rattle.sm_defs.specs.Volume.{Volume}
use Rattle.sm_disk.specs.Disk.{DiskState}
use Rattle.sm_node.specs.Seats.{disk_number, device}
use Rattle.sm_node.specs.Nodes.{Node, placed, numbers, LieOn, world_of, IsLaidOut}
use Rattle.sm_node.specs.Parts.{devices}
use Rattle.sm_node.specs.Acts.{IsDiskOf, HasFailed}
use Rattle.sm_node.specs.Counted.{KeepsNumbers, HasCounted, CountsStay, CountRises}
use Rattle.sm_seats.proofs.Lists.{some_at}
use Rattle.sm_node.proofs.Lists.{mapped_to, mapped_at}
use Rattle.sm_node.proofs.Worlds.{placed_there}
use Rattle.sm_node.proofs.Counts.{counted_at, counted_beside}

module _ {D : Type 0} (state : D → DiskState) where
  -- the disk that is named is the one at the seat
  seat_named : (n : Node D) → LieOn n.root.held.volumes (map disk_number n.seats) → length n.root.held.volumes ≡ length n.seats → (seat : ℕ) (disk : DiskNo) (x : D) → slice_get (devices n) seat ≡ Some x
      → ((i : ℕ) (v : Volume) → seat ≡ suc i → slice_get (world_of n).volumes i ≡ Some v → disk.0 ≡ v.disk) → (seat ≡ 0 → disk.0 ≡ 0) → slice_get (numbers n.seats) seat ≡ Some disk.0
  seat_named n places many zero disk x e volume root = ap (λ (k : ℕ). Some k) (sym (root refl))
  seat_named n places many (suc i) disk x e volume root =
      let s = mapped_at device n.seats i x e in
      let p = some_at n.root.held.volumes i (let lt = slice_get_within n.seats i s.0 s.1 in omega (arith, lt, many)) in
      let there = placed_there n.root.held.volumes n.seats i p.0 s.0 p.1 s.1 in
      let number = mapped_to disk_number n.seats i s.0 s.1 in
      number ∙ ap (λ (k : ℕ). Some k) (sym (places i p.0 s.0.disk p.1 number) ∙ sym (volume i (placed p.0 s.0.volume) refl there))

  pub event_rises : (old new : Node D) → LieOn old.root.held.volumes (map disk_number old.seats) → length old.root.held.volumes ≡ length old.seats → IsLaidOut new.seats new.spares new.lengths → KeepsNumbers old new → CountsStay state old new
      → (disk : DiskNo) (count : ℕ) → HasFailed state (world_of old) disk count (devices old) (devices new) → CountRises state disk count old new
  event_rises old new places many is keeps stay disk count failed = λ counts has.
      let named = seat_named old places many failed.seat disk failed.old failed.was (by_volume failed.seat failed.named) (by_root failed.seat failed.named) in
      let before = counted_at state counts old has failed.seat disk.0 failed.old named failed.was in
      let risen = failed.counted in
      let counts_is = failed.counts in (
        omega (arith, before, risen, counts_is),
        counted_beside state new is failed.seat disk.0 count failed.new (keeps failed.seat disk.0 named) failed.is (omega (arith, counts_is)) counts (stay counts has),
      )
    where
      by_volume : (seat : ℕ) → IsDiskOf (world_of old) seat disk → (i : ℕ) (v : Volume) → seat ≡ suc i → slice_get (world_of old).volumes i ≡ Some v → disk.0 ≡ v.disk
      by_volume seat named i v e there = (subst (λ (k : ℕ). IsDiskOf (world_of old) k disk) e named) v there

      by_root : (seat : ℕ) → IsDiskOf (world_of old) seat disk → seat ≡ 0 → disk.0 ≡ 0
      by_root seat named e = subst (λ (k : ℕ). IsDiskOf (world_of old) k disk) e named
