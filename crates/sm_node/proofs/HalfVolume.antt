-- A node that is down, when the disk of a volume is restarted.
use Rattle.std.proofs.Common.{◌≡◌, ◌≢◌, inl, inr, ℕ, zero, suc, List, ◌∷◌, length, map, refl, sym, ◌∙◌, ap, subst, Some, None, IsTrue, arith}
use Rattle.std.specs.Prelude.{slice_get, slice_set, Option}
use Rattle.std.proofs.lemmas.Bool.{cases_eq}
use Rattle.std.proofs.lemmas.List.{length-map, length-set}
use Rattle.std.proofs.lemmas.Option.{slice_get_within}
use Rattle.sm_base.specs.declared.numbers.Side.{Side}
use Rattle.sm_base.specs.declared.numbers.Side.TheVariants.{Before, After}
use Rattle.sm_defs.specs.Volume.{Volume}
use Rattle.sm_defs.specs.World.{Up}
use Rattle.sm_disk.specs.Disk.{DiskState}
use Rattle.sm_model.specs.World.{Deed}
use Rattle.sm_model.specs.Opened.{opened}
use Rattle.sm_shape.specs.Blanked.{blanked}
use Rattle.sm_volume.specs.Mounted.{Mounted}
use Rattle.sm_register.specs.Turned.{joined}
use Rattle.sm_catroot.specs.Catalog.{Catalog}
use Rattle.sm_node.specs.Seats.{Seated, device, moved}
use Rattle.sm_node.specs.Nodes.{Node, world_with}
use Rattle.sm_node.specs.Parts.{devices}
use Rattle.sm_node.specs.Pending.{later, ahead}
use Rattle.sm_node.specs.Turning.{VolumeTurns, at_rest}
use Rattle.sm_node.specs.Halved.{FoundBy, IsRecordOf, IsOpen, FoundAt, IsHalved, world_at}
use Rattle.sm_seats.proofs.Lists.{one_value}
use Rattle.sm_node.proofs.Lists.{get_set_other, get_set_same, mapped_at, mapped_to}
use Rattle.sm_node.proofs.SeatLemmas.{others_stay}
use Rattle.sm_node.proofs.Bare.{world_alike}
use Rattle.sm_node.proofs.HalfSteps.{DiffersAt, found_step, no_side, stays_none, joined_before, world_before, world_after, later_none, left_back}

-- the disks of a node of which one volume moved
devices_differ : {D : Type 0} (root : D) (seats : List (Seated D)) (i : ℕ) (s t : Seated D) → slice_get seats i ≡ Some s → DiffersAt (suc i) (device s) (device t) (root ∷ map device seats) (root ∷ map device (slice_set seats i t))
devices_differ root seats i s t e = (mapped_to device seats i s e, mapped_to device (slice_set seats i t) i t (get_set_same seats i t (slice_get_within seats i s e)), others_stay root seats i t)

devices_long : {D : Type 0} (root : D) (seats : List (Seated D)) (i : ℕ) (s : Seated D) → length (root ∷ map device (slice_set seats i s)) ≡ length (root ∷ map device seats)
devices_long root seats i s = ap suc (length-map (slice_set seats i s) device ∙ length-set seats i s ∙ sym (length-map seats device))

module _ {D : Type 0} (state : D → DiskState) (d : Deed) (s : Side) (n : Node D) (h : IsHalved state d s n) (at : ℕ) (old : Seated D) (new : Mounted D) (was : slice_get n.seats at ≡ Some old) where
  -- an element of the list where one was changed
  at_place : (i : ℕ) (m : Seated D) → i ≡ at → slice_get (slice_set n.seats at (moved old new)) i ≡ Some m → moved old new ≡ m
  at_place i m same e = one_value (slice_get (slice_set n.seats at (moved old new)) at) (moved old new) m (get_set_same n.seats at (moved old new) (slice_get_within n.seats at old was)) (subst (λ (j : ℕ). slice_get (slice_set n.seats at (moved old new)) j ≡ Some m) same e)

  elsewhere : (i : ℕ) (m : Seated D) → i ≢ at → slice_get (slice_set n.seats at (moved old new)) i ≡ Some m → slice_get n.seats i ≡ Some m
  elsewhere i m ne e = sym (get_set_other n.seats at i (moved old new) ne) ∙ e

  held : (r : Side) → VolumeTurns state r old.volume new → IsRecordOf n.lengths n.root.held (world_at (joined s r) d)
  unfolding IsOpen
  held Before t = subst (λ (w : Up). IsRecordOf n.lengths n.root.held w) (sym (world_before s Before d refl)) h.held
  held After t = elim (cases_eq h.seat (suc at)) [
    | inl z ↦
        let is_open : IsOpen n h.seat = subst (IsOpen n) (sym z) (old, was, t.turns.0) in
        subst (λ (w : Up). IsRecordOf n.lengths n.root.held w) (sym (world_after s d))
        (subst (λ (k : Catalog). IsRecordOf n.lengths k d.new) (later_none n.root.after n.root.held (h.decided.root (λ (e : h.seat ≡ 0). let bad : suc at ≡ 0 = sym z ∙ e in omega (arith, bad)))) (h.ahead is_open))
    | inr ne ↦ absurd (t.turns.0 (h.decided.volumes at old was ne))
  ]

  open_before : (r : Side) → VolumeTurns state r old.volume new → (k : ℕ) → IsOpen (record n { seats = slice_set n.seats at (moved old new) }) k → IsOpen n k
  unfolding IsOpen
  open_before r t zero o = o
  open_before r t (suc i) o = elim (cases_eq i at) [
    | inl same ↦
        let is : moved old new ≡ o.0 = at_place i o.0 same o.1 in
        (old, subst (λ (j : ℕ). slice_get n.seats j ≡ Some old) (sym same) was, λ (e : old.volume.after ≡ None). o.2 (ap (λ (x : Seated D). x.volume.after) (sym is) ∙ stays_none r _ _ _ old.volume.after new.after t.turns e))
    | inr ne ↦ (o.0, elsewhere i o.0 ne o.1, o.2)
  ]

  before_at : (r : Side) → VolumeTurns state r old.volume new → h.seat ≢ suc at → r ≡ Before
  before_at r t ne = no_side r _ _ _ old.volume.after new.after (h.decided.volumes at old was ne) t.turns

  found : (r : Side) → VolumeTurns state r old.volume new → (k : ℕ) → k ≡ h.seat → FoundAt state s h.slot n k → FoundAt state (joined s r) h.slot (record n { seats = slice_set n.seats at (moved old new) }) k
  unfolding FoundAt
  found r t zero e f = subst (λ (u : Side). FoundBy u h.slot (IsTrue (state n.root.disk).told) n.root.selected n.root.after) (sym (joined_before s r (before_at r t (λ z. let bad : 0 ≡ suc at = e ∙ z in omega (arith, bad))))) f
  found r t (suc i) e f = λ m g. elim (cases_eq i at) [
    | inl same ↦
        let is : moved old new ≡ m = at_place i m same g in
        subst (λ (x : Seated D). FoundBy (joined s r) h.slot (IsTrue (state (device x)).told) x.volume.selected x.volume.after) is
        (found_step s r _ _ h.slot _ _ old.volume.after new.after (λ told. subst IsTrue t.goes.told told) (f old (subst (λ (j : ℕ). slice_get n.seats j ≡ Some old) (sym same) was)) t.turns)
    | inr ne ↦
        subst (λ (u : Side). FoundBy u h.slot (IsTrue (state (device m)).told) m.volume.selected m.volume.after) (sym (joined_before s r (before_at r t (λ z. let bad : suc i ≡ suc at = e ∙ z in ne (omega (arith, bad))))))
        (f m (elsewhere i m ne g))
  ]

  decided : (r : Side) → VolumeTurns state r old.volume new → (i : ℕ) (m : Seated D) → slice_get (slice_set n.seats at (moved old new)) i ≡ Some m → h.seat ≢ suc i → m.volume.after ≡ None
  decided r t i m e ne = elim (cases_eq i at) [
    | inl same ↦
        let is : moved old new ≡ m = at_place i m same e in
        ap (λ (x : Seated D). x.volume.after) (sym is) ∙ stays_none r _ _ _ old.volume.after new.after t.turns (h.decided.volumes at old was (λ z. ne (z ∙ ap suc (sym same))))
    | inr other ↦ h.decided.volumes i m (elsewhere i m other e) ne
  ]

  -- without bytes
  long_set : length (slice_set n.seats at (moved old new)) ≡ length n.seats
  long_set = length-set n.seats at (moved old new)

  is_old : (i : ℕ) (m : Seated D) → i ≡ at → slice_get n.seats i ≡ Some m → old ≡ m
  is_old i m same e = one_value (slice_get n.seats at) old m was (subst (λ (j : ℕ). slice_get n.seats j ≡ Some m) same e)

  rest_before : (r : Side) → r ≡ Before → VolumeTurns state r old.volume new → at_rest new.volume ≡ at_rest old.volume.volume
  rest_before Before e t = t.volume old.volume.volume refl
  rest_before After e t = absurd (cc)

  bare_now : (r : Side) → VolumeTurns state r old.volume new → blanked (opened (world_with n.root.held (slice_set n.seats at (moved old new)) n.lengths)) ≡ blanked (opened (world_at (joined s r) d))
  unfolding IsOpen
  bare_now Before t =
      world_alike n.root.held (slice_set n.seats at (moved old new)) n.seats n.lengths long_set (λ i m k e f. elim (cases_eq i at) [
        | inl same ↦ ap (λ (x : Seated D). at_rest x.volume.volume) (sym (at_place i m same e)) ∙ rest_before Before refl t ∙ ap (λ (x : Seated D). at_rest x.volume.volume) (is_old i k same f)
        | inr ne ↦ ap (λ (x : Seated D). at_rest x.volume.volume) (one_value (slice_get n.seats i) m k (elsewhere i m ne e) f)
      ])
      ∙ h.bare_now ∙ ap (λ (w : Up). blanked (opened w)) (sym (world_before s Before d refl))
  bare_now After t = elim (cases_eq h.seat (suc at)) [
    | inl z ↦
        let is_open : IsOpen n h.seat = subst (IsOpen n) (sym z) (old, was, t.turns.0) in
        let none = h.decided.root (λ (e : h.seat ≡ 0). let bad : suc at ≡ 0 = sym z ∙ e in omega (arith, bad)) in
        world_alike n.root.held (slice_set n.seats at (moved old new)) (map ahead n.seats) n.lengths (long_set ∙ sym (length-map n.seats ahead)) (λ i m k e f.
        let q = mapped_at ahead n.seats i k f in
        elim (cases_eq i at) [
          | inl same ↦
              ap (λ (x : Seated D). at_rest x.volume.volume) (sym (at_place i m same e)) ∙ rest_after old.volume.after refl t
              ∙ ap (λ (x : Seated D). at_rest (later x.volume.after x.volume.volume)) (is_old i q.0 same q.1) ∙ ap (λ (x : Seated D). at_rest x.volume.volume) q.2
          | inr ne ↦
              let here : m ≡ q.0 = one_value (slice_get n.seats i) m q.0 (elsewhere i m ne e) q.1 in
              let decided = h.decided.volumes i q.0 q.1 (λ f. let bad : suc i ≡ suc at = sym f ∙ z in ne (omega (arith, bad))) in
              ap (λ (x : Seated D). at_rest x.volume.volume) here ∙ ap (λ (o : Option Volume). at_rest (later o q.0.volume.volume)) (sym decided) ∙ ap (λ (x : Seated D). at_rest x.volume.volume) q.2
        ])
        ∙ ap (λ (k : Catalog). blanked (opened (world_with k (map ahead n.seats) n.lengths))) (sym (later_none n.root.after n.root.held none))
        ∙ h.bare_ahead is_open ∙ ap (λ (w : Up). blanked (opened w)) (sym (world_after s d))
    | inr ne ↦ absurd (t.turns.0 (h.decided.volumes at old was ne))
  ]
    where
      rest_after : (o : Option Volume) → old.volume.after ≡ o → VolumeTurns state After old.volume new → at_rest new.volume ≡ at_rest (later o old.volume.volume)
      rest_after None e t = absurd (t.turns.0 e)
      rest_after (Some u) e t = t.volume u e

  rest_ahead : (r : Side) → VolumeTurns state r old.volume new → (h.seat ≡ suc at → new.after ≡ None → ⊥) → at_rest (later new.after new.volume) ≡ at_rest (later old.volume.after old.volume.volume)
  rest_ahead r t o = elim (cases_eq h.seat (suc at)) [
    | inl z ↦ by new.after refl (o z)
    | inr ne ↦
        let none = h.decided.volumes at old was ne in
        ap (λ (p : Option Volume). at_rest (later p new.volume)) (stays_none r _ _ _ old.volume.after new.after t.turns none) ∙ rest_before r (before_at r t ne) t ∙ ap (λ (p : Option Volume). at_rest (later p old.volume.volume)) (sym none)
  ]
    where
      by : (p : Option Volume) → new.after ≡ p → (new.after ≡ None → ⊥) → at_rest (later new.after new.volume) ≡ at_rest (later old.volume.after old.volume.volume)
      by None e ne = absurd (ne e)
      by (Some v) e ne =
          let u = t.after v e in
          ap (λ (p : Option Volume). at_rest (later p new.volume)) e ∙ u.2 ∙ ap (λ (p : Option Volume). at_rest (later p old.volume.volume)) (sym u.1)

  open_at : (k : ℕ) → IsOpen (record n { seats = slice_set n.seats at (moved old new) }) k → k ≡ suc at → new.after ≡ None → ⊥
  unfolding IsOpen
  open_at zero o z none = absurd (omega (arith, z))
  open_at (suc i) o z none =
      let same : i ≡ at = omega (arith, z) in
      o.2 (ap (λ (x : Seated D). x.volume.after) (sym (at_place i o.0 same o.1)) ∙ none)

  bare_ahead : (r : Side) → VolumeTurns state r old.volume new → IsOpen (record n { seats = slice_set n.seats at (moved old new) }) h.seat
      → blanked (opened (world_with (later n.root.after n.root.held) (map ahead (slice_set n.seats at (moved old new))) n.lengths)) ≡ blanked (opened d.new)
  bare_ahead r t o =
      world_alike (later n.root.after n.root.held) (map ahead (slice_set n.seats at (moved old new))) (map ahead n.seats) n.lengths (length-map (slice_set n.seats at (moved old new)) ahead ∙ long_set ∙ sym (length-map n.seats ahead)) (λ i m k e f.
      let a = mapped_at ahead (slice_set n.seats at (moved old new)) i m e in
      let b = mapped_at ahead n.seats i k f in
      elim (cases_eq i at) [
        | inl same ↦
            ap (λ (x : Seated D). at_rest x.volume.volume) (sym a.2) ∙ ap (λ (x : Seated D). at_rest (later x.volume.after x.volume.volume)) (sym (at_place i a.0 same a.1))
            ∙ rest_ahead r t (open_at h.seat o) ∙ ap (λ (x : Seated D). at_rest (later x.volume.after x.volume.volume)) (is_old i b.0 same b.1) ∙ ap (λ (x : Seated D). at_rest x.volume.volume) b.2
        | inr ne ↦
            ap (λ (x : Seated D). at_rest x.volume.volume) (sym a.2) ∙ ap (λ (x : Seated D). at_rest (later x.volume.after x.volume.volume)) (one_value (slice_get n.seats i) a.0 b.0 (elsewhere i a.0 ne a.1) b.1)
            ∙ ap (λ (x : Seated D). at_rest x.volume.volume) b.2
      ])
      ∙ h.bare_ahead (open_before r t h.seat o)

  pub volume_half : (r : Side) → VolumeTurns state r old.volume new → IsHalved state d (joined s r) (record n { seats = slice_set n.seats at (moved old new) })
  volume_half r t = record {
    seat = h.seat;
    slot = h.slot;
    is_seat = let long = devices_long n.root.disk n.seats at (moved old new) in let lt = h.is_seat in omega (arith, long, lt);
    one_of_two = h.one_of_two;
    shown = λ images left.
        let shown = h.shown images (left_back state (suc at) (device old) new.disk (devices n) (devices (record n { seats = slice_set n.seats at (moved old new) })) images (devices_differ n.root.disk n.seats at old (moved old new) was) t.goes left) in
        let long = devices_long n.root.disk n.seats at (moved old new) in
        (λ e k lt. shown.0 e k (omega (arith, long, lt)), λ e k lt. shown.1 e k (omega (arith, long, lt)));
    decided = record { root = h.decided.root; volumes = decided r t };
    found = found r t h.seat refl h.found;
    held = held r t;
    ahead = λ o. h.ahead (open_before r t h.seat o);
    long = record {
      held = let same = long_set in let le = h.long.held in omega (arith, same, le);
      after = λ k e. h.long.after k e ∙ sym long_set;
    };
    bare_now = bare_now r t;
    bare_ahead = bare_ahead r t;
  }
