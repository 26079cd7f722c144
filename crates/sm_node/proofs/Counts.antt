-- How often the disks of a node have failed, by their numbers: what holds of the disk of one number, and of all where one moves.
use Rattle.std.proofs.Common.{◌≡◌, ◌≢◌, ℕ, zero, suc, ◌≤◌, ◌==◌, max, List, [], ◌∷◌, ◌++◌, length, map, refl, sym, ◌∙◌, ap, subst, ⊎_elim, Some, None, inl, inr, true, false, Bool, cond, arith}
use Rattle.std.specs.Prelude.{slice_get, slice_set, Option}
use Rattle.std.proofs.Math.Nat.{max-le}
use Rattle.std.proofs.lemmas.Bool.{cases_eq, eqb-true}
use Rattle.std.proofs.lemmas.Option.{same_Some, slice_get_within}
use Rattle.sm_defs.specs.Words.{Among, KeysDiffer}
use Rattle.sm_defs.proofs.Members.{get_among, among_each}
use Rattle.sm_disk.specs.Disk.{DiskState}
use Rattle.sm_register.specs.Registered.{Registered}
use Rattle.sm_catroot.specs.Catalog.{Catalog}
use Rattle.sm_volume.specs.Mounted.{Mounted}
use Rattle.sm_node.specs.Seats.{Seated, disk_number, device, moved}
use Rattle.sm_node.specs.Nodes.{Node, numbers, IsLaidOut}
use Rattle.sm_node.specs.Parts.{devices}
use Rattle.sm_node.specs.Counted.{with_count, HasCounted, CountsStay}
use Rattle.sm_seats.proofs.Lists.{one_value, last_or}
use Rattle.sm_node.proofs.Lists.{get_set_other, get_set_same, mapped_to, mapped_at}

-- ---- counts

-- the disk of a number has counted so much at least where it has each
with_count_at : (counts : ℕ → ℕ) (disk count number faults : ℕ) → counts number ≤ faults → (number ≡ disk → count ≤ faults) → with_count counts disk count number ≤ faults
with_count_at counts disk count number faults before now = go (number == disk) refl
  where
    go : (b : Bool) → (number == disk) ≡ b → cond b (max count (counts number)) (counts number) ≤ faults
    go true e = max-le (now (eqb-true number disk e)) before
    go false e = before

-- a number stands at one place
one_place : (ns : List ℕ) → KeysDiffer (λ (n : ℕ). n) ns → (i j k : ℕ) → slice_get ns i ≡ Some k → slice_get ns j ≡ Some k → i ≡ j
one_place [] d i j k e f = absurd (cc)
one_place (n ∷ ns) d zero zero k e f = refl
one_place (n ∷ ns) d zero (suc j) k e f =
    let is : n ≡ k = cc in
    absurd (among_each (λ (m : ℕ). ¬ (m ≡ n)) ns k d.0 (get_among ns j k f) (sym is))
one_place (n ∷ ns) d (suc i) zero k e f =
    let is : n ≡ k = cc in
    absurd (among_each (λ (m : ℕ). ¬ (m ≡ n)) ns k d.0 (get_among ns i k e) (sym is))
one_place (n ∷ ns) d (suc i) (suc j) k e f = ap suc (one_place ns d.1 i j k e f)

module _ {D : Type 0} (state : D → DiskState) where
  -- ---- the disk of one number

  -- what the disk at a seat has counted at least
  pub counted_at : (counts : ℕ → ℕ) (n : Node D) → HasCounted state counts n → (seat number : ℕ) (x : D) → slice_get (numbers n.seats) seat ≡ Some number → slice_get (devices n) seat ≡ Some x → counts number ≤ (state x).faults
  counted_at counts n has zero number x e f =
      let is_number : 0 ≡ number = cc in
      let is_disk : n.root.disk ≡ x = cc in
      subst (λ (k : ℕ). counts k ≤ (state x).faults) is_number (subst (λ (y : D). counts 0 ≤ (state y).faults) is_disk has.root)
  counted_at counts n has (suc i) number x e f =
      let s = mapped_at device n.seats i x f in
      let is_number : s.0.disk ≡ number = same_Some s.0.disk number (sym (mapped_to disk_number n.seats i s.0 s.1) ∙ e) in
      subst (λ (k : ℕ). counts k ≤ (state x).faults) is_number (subst (λ (y : D). counts s.0.disk ≤ (state y).faults) s.2 (has.seats i s.0 s.1))

  -- the disk at this seat has counted so much: so it stands beside what all have
  module _ (n : Node D) (is : IsLaidOut n.seats n.spares n.lengths) (seat disk count : ℕ) (now : D) (named : slice_get (numbers n.seats) seat ≡ Some disk) (here : slice_get (devices n) seat ≡ Some now) (counted : count ≤ (state now).faults) where
    at_root : 0 ≡ disk → count ≤ (state n.root.disk).faults
    at_root same =
        let seat_is : seat ≡ 0 = one_place (numbers n.seats) is.apart seat 0 disk named (ap (λ (k : ℕ). Some k) same) in
        let found : now ≡ n.root.disk = one_value (slice_get (devices n) seat) now n.root.disk here (ap (λ (j : ℕ). slice_get (devices n) j) seat_is) in
        subst (λ (y : D). count ≤ (state y).faults) found counted

    at_seat : (i : ℕ) (s : Seated D) → slice_get n.seats i ≡ Some s → s.disk ≡ disk → count ≤ (state (device s)).faults
    at_seat i s e same =
        let there : slice_get (numbers n.seats) (suc i) ≡ Some disk = mapped_to disk_number n.seats i s e ∙ ap (λ (k : ℕ). Some k) same in
        let seat_is : seat ≡ suc i = one_place (numbers n.seats) is.apart seat (suc i) disk named there in
        let found : now ≡ device s = one_value (slice_get (devices n) seat) now (device s) here (ap (λ (j : ℕ). slice_get (devices n) j) seat_is ∙ mapped_to device n.seats i s e) in
        subst (λ (y : D). count ≤ (state y).faults) found counted

    at_hand : (k : ℕ) (x : D) → slice_get n.spares k ≡ Some (Some x) → k ≡ disk → count ≤ (state x).faults
    at_hand k x e same =
        let taken = is.taken disk (get_among (numbers n.seats) seat disk named) in
        absurd (let g = sym e ∙ ap (λ (j : ℕ). slice_get n.spares j) same ∙ taken in cc)

    pub counted_beside : (counts : ℕ → ℕ) → HasCounted state counts n → HasCounted state (with_count counts disk count) n
    counted_beside counts has = record {
      root = with_count_at counts disk count 0 (state n.root.disk).faults has.root at_root;
      seats = λ i s e. with_count_at counts disk count s.disk (state (device s)).faults (has.seats i s e) (at_seat i s e);
      spares = λ k x e. with_count_at counts disk count k (state x).faults (has.spares k x e) (at_hand k x e);
    }

  -- ---- no count falls

  -- the catalogue's disk moves
  pub root_counts : (n : Node D) (root : Registered D Catalog) → (state n.root.disk).faults ≤ (state root.disk).faults → CountsStay state n (record n { root = root })
  root_counts n root grown = λ counts has. record {
    root = let before = has.root in omega (arith, before, grown);
    seats = has.seats;
    spares = has.spares;
  }

  -- the disk of a volume moves
  pub seat_counts : (n : Node D) (at : ℕ) (s : Seated D) (m : Mounted D) → slice_get n.seats at ≡ Some s → (state (device s)).faults ≤ (state m.disk).faults → CountsStay state n (record n { seats = slice_set n.seats at (moved s m) })
  seat_counts n at s m was grown = λ counts has. record {
    root = has.root;
    seats = λ i x e. elim (cases_eq i at) [
      | inl same ↦
          let here : slice_get (slice_set n.seats at (moved s m)) at ≡ Some x = subst (λ (j : ℕ). slice_get (slice_set n.seats at (moved s m)) j ≡ Some x) same e in
          let is : moved s m ≡ x = one_value (slice_get (slice_set n.seats at (moved s m)) at) (moved s m) x (get_set_same n.seats at (moved s m) (slice_get_within n.seats at s was)) here in
          let before = has.seats at s was in
          subst (λ (y : Seated D). counts y.disk ≤ (state (device y)).faults) is (let after : counts s.disk ≤ (state m.disk).faults = omega (arith, before, grown) in after)
      | inr ne ↦ has.seats i x (sym (get_set_other n.seats at i (moved s m) ne) ∙ e)
    ];
    spares = has.spares;
  }

  -- a disk that holds nothing moves
  pub spare_counts : (n : Node D) (number : ℕ) (x y : D) → slice_get n.spares number ≡ Some (Some x) → (state x).faults ≤ (state y).faults → CountsStay state n (record n { spares = slice_set n.spares number (Some y) })
  spare_counts n number x y was grown = λ counts has. record {
    root = has.root;
    seats = has.seats;
    spares = λ k z e. elim (cases_eq k number) [
      | inl same ↦
          let here : slice_get (slice_set n.spares number (Some y)) number ≡ Some (Some z) = subst (λ (j : ℕ). slice_get (slice_set n.spares number (Some y)) j ≡ Some (Some z)) same e in
          let there = get_set_same n.spares number (Some y) (slice_get_within n.spares number (Some x) was) in
          let is : y ≡ z = same_Some y z (same_Some (Some y) (Some z) (sym there ∙ here)) in
          let before = has.spares number x was in
          subst (λ (j : ℕ). counts j ≤ (state z).faults) (sym same) (subst (λ (u : D). counts number ≤ (state u).faults) is (let after : counts number ≤ (state y).faults = omega (arith, before, grown) in after))
      | inr ne ↦ has.spares k z (sym (get_set_other n.spares number k (Some y) ne) ∙ e)
    ];
  }

  -- a disk that held nothing gets a volume, and the catalogue's disk moves
  pub made_counts : (n : Node D) (root : Registered D Catalog) (s : Seated D) (x : D) → slice_get n.spares s.disk ≡ Some (Some x) → (state x).faults ≤ (state (device s)).faults → (state n.root.disk).faults ≤ (state root.disk).faults
      → CountsStay state n (record n { root = root; seats = n.seats ++ s ∷ []; spares = slice_set n.spares s.disk None })
  made_counts n root s x was grown root_grown = λ counts has. record {
    root = let before = has.root in omega (arith, before, root_grown);
    seats = λ i t e. ⊎_elim
        (λ old. has.seats i t old.1)
        (λ new. subst (λ (u : Seated D). counts u.disk ≤ (state (device u)).faults) new.1 (let before = has.spares s.disk x was in let after : counts s.disk ≤ (state (device s)).faults = omega (arith, before, grown) in after))
        (last_or n.seats s i t e);
    spares = λ k z e. elim (cases_eq k s.disk) [
      | inl same ↦
          let here : slice_get (slice_set n.spares s.disk None) s.disk ≡ Some (Some z) = subst (λ (j : ℕ). slice_get (slice_set n.spares s.disk None) j ≡ Some (Some z)) same e in
          absurd (let g = sym (get_set_same n.spares s.disk None (slice_get_within n.spares s.disk (Some x) was)) ∙ here in cc)
      | inr ne ↦ has.spares k z (sym (get_set_other n.spares s.disk k None ne) ∙ e)
    ];
  }
