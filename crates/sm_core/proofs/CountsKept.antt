-- What the disks have counted goes into a node that is opened, and comes back with its disks.
use Rattle.std.proofs.Common.{◌≡◌, ℕ, suc, ◌<◌, ◌≤◌, List, ◌∷◌, length, map, refl, sym, ◌∙◌, ap, subst, Some, None, inl, inr, arith}
use Rattle.std.specs.Prelude.{slice_get, Option}
use Rattle.std.proofs.lemmas.List.{length-map}
use Rattle.std.proofs.lemmas.Bool.{cases_eq}
use Rattle.std.proofs.lemmas.Option.{same_Some, slice_get_within}
use Rattle.sm_defs.specs.Words.{Among}
use Rattle.sm_defs.proofs.Members.{among_place, get_among}
use Rattle.sm_disk.specs.Disk.{DiskState}
use Rattle.sm_catroot.specs.declared.placed.Placed.{Placed}
use Rattle.sm_node.specs.Seats.{Seated, disk_number, device}
use Rattle.sm_node.specs.Nodes.{Node, numbers, IsLaidOut}
use Rattle.sm_node.specs.Parts.{devices}
use Rattle.sm_node.specs.HandedBack.{AreInPlaces}
use Rattle.sm_node.specs.Counted.{HasCounted}
use Rattle.sm_seats.proofs.Lists.{some_at, one_value}
use Rattle.sm_node.proofs.Lists.{mapped_to}
use Rattle.sm_node.proofs.Counts.{counted_at}
use Rattle.sm_opening.specs.Looked.{size_of}
use Rattle.sm_opening.specs.Opening.{Opens}
use Rattle.sm_core.specs.FaultsRise.{DisksHaveCounted}

module _ {D : Type 0} (state : D → DiskState) (n : Node D) (is : IsLaidOut n.seats n.spares n.lengths) (counts : ℕ → ℕ) where
  -- ---- handed back

  module _ (disks : List D) (places : AreInPlaces n disks) (has : HasCounted state counts n) where
    seated : (k : ℕ) (x : D) → slice_get disks k ≡ Some x → slice_get n.spares k ≡ Some None → counts k ≤ (state x).faults
    seated k x e none =
        let seat = among_place (numbers n.seats) k (is.left k none) in
        let long : length (devices n) ≡ length (numbers n.seats) = ap suc (length-map n.seats device ∙ sym (length-map n.seats disk_number)) in
        let y = some_at (devices n) seat.0 (let lt = slice_get_within (numbers n.seats) seat.0 k seat.1 in omega (arith, lt, long)) in
        let same : y.0 ≡ x = one_value (slice_get disks k) y.0 x (places.seats seat.0 k y.0 seat.1 y.1) e in
        subst (λ (z : D). counts k ≤ (state z).faults) same (counted_at state counts n has seat.0 k y.0 seat.1 y.1)

    by_place : (k : ℕ) (x : D) → slice_get disks k ≡ Some x → (o : Option D) → slice_get n.spares k ≡ Some o → counts k ≤ (state x).faults
    by_place k x e None there = seated k x e there
    by_place k x e (Some y) there =
        let same : y ≡ x = one_value (slice_get disks k) y x (places.spares k y there) e in
        subst (λ (z : D). counts k ≤ (state z).faults) same (has.spares k y there)

    pub handed_back : DisksHaveCounted state counts disks
    handed_back = λ k x e.
        let o = some_at n.spares k (let lt = slice_get_within disks k x e in let long = places.as_many in omega (arith, lt, long)) in
        by_place k x e o.0 o.1

  -- ---- opened

  module _ (olds : List D) (o : Opens state olds n) (has : DisksHaveCounted state counts olds) where
    -- the disk of a number after it was looked at
    at_number : (k : ℕ) (y : D) → slice_get o.disks k ≡ Some y → counts k ≤ (state y).faults
    at_number k y e =
        let x = some_at olds k (let lt = slice_get_within o.disks k y e in let long = o.moved.as_long in omega (arith, lt, long)) in
        let before = has k x.0 x.1 in
        let grown = (o.moved.each k x.0 y x.1 e).goes.faults in
        omega (arith, before, grown)

    at_seat : (i : ℕ) (s : Seated D) → slice_get n.seats i ≡ Some s → (p : Placed) × Among o.records.catalog.value.volumes p × (p.disk.0 ≡ s.disk) × (slice_get o.disks p.disk.0 ≡ Some (device s))
    at_seat i s e =
        let lt = slice_get_within n.seats i s e in
        let many = o.made.as_many in
        let placed_many = o.ready.read.volumes.as_many in
        let f = some_at o.records.founds i (omega (arith, lt, many)) in
        let p = some_at o.records.catalog.value.volumes i (omega (arith, lt, many, placed_many)) in
        let here = o.made.seats i p.0 f.0 s p.1 f.1 e in
        (p.0, get_among o.records.catalog.value.volumes i p.0 p.1, sym here.starts.disk, here.device)

    -- a disk that is at hand holds nothing: so it is the one of its number
    left_over : (k : ℕ) (x : D) → slice_get n.spares k ≡ Some (Some x) → slice_get o.disks k ≡ Some x
    left_over k x e =
        let not_used : (number : ℕ) → Among (numbers n.seats) number → ¬ (k ≡ number) = λ number a same. (let g = sym e ∙ ap (λ (j : ℕ). slice_get n.spares j) same ∙ is.taken number a in cc) in
        let sizes : length n.lengths ≡ length o.disks = ap length (o.made.lengths ∙ o.ready.sizes) ∙ length-map o.disks (size_of state) in
        let y = some_at o.disks k (let lt = slice_get_within n.spares k (Some x) e in let long = is.as_many in omega (arith, lt, long, sizes)) in
        let there : slice_get n.spares k ≡ Some (Some y.0) = o.made.spares k y.0 y.1 (not_used 0 (inl refl)) (λ p a same. not_used p.disk.0 (is_number p a) (sym same)) in
        y.1 ∙ ap (λ (z : D). Some z) (same_Some y.0 x (same_Some (Some y.0) (Some x) (sym there ∙ e)))
      where
        is_number : (p : Placed) → Among o.records.catalog.value.volumes p → Among (numbers n.seats) p.disk.0
        is_number p a =
            let i = among_place o.records.catalog.value.volumes p a in
            let lt = slice_get_within o.records.catalog.value.volumes i.0 p i.1 in
            let many = o.made.as_many in
            let placed_many = o.ready.read.volumes.as_many in
            let f = some_at o.records.founds i.0 (omega (arith, lt, placed_many)) in
            let s = some_at n.seats i.0 (omega (arith, lt, many, placed_many)) in
            let starts = (o.made.seats i.0 p f.0 s.0 i.1 f.1 s.1).starts in
            inr (subst (λ (k : ℕ). Among (map disk_number n.seats) k) starts.disk (get_among (map disk_number n.seats) i.0 s.0.disk (mapped_to disk_number n.seats i.0 s.0 s.1)))

    pub taken_in : HasCounted state counts n
    taken_in = record {
      root = at_number 0 n.root.disk o.made.disk;
      seats = λ i s e.
          let p = at_seat i s e in
          subst (λ (k : ℕ). counts k ≤ (state (device s)).faults) p.2 (at_number p.0.disk.0 (device s) p.3);
      spares = λ k x e. at_number k x (left_over k x e);
    }
