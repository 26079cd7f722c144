-- A node that is down, when the catalogue's disk is restarted.
use Rattle.std.proofs.Common.{◌≡◌, ◌≢◌, inl, inr, ℕ, zero, suc, ◌≤◌, List, length, map, refl, sym, ◌∙◌, ap, subst, Some, None, IsTrue, arith}
use Rattle.std.specs.Prelude.{slice_get}
use Rattle.std.proofs.lemmas.Bool.{cases_eq}
use Rattle.sm_base.specs.declared.numbers.Side.{Side}
use Rattle.sm_base.specs.declared.numbers.Side.TheVariants.{Before, After}
use Rattle.sm_defs.specs.World.{Up}
use Rattle.sm_disk.specs.Disk.{DiskState}
use Rattle.sm_model.specs.World.{Deed}
use Rattle.sm_model.specs.Opened.{opened}
use Rattle.sm_shape.specs.Blanked.{blanked}
use Rattle.sm_register.specs.Registered.{Registered}
use Rattle.sm_register.specs.Turned.{of_side, joined}
use Rattle.sm_catroot.specs.Catalog.{Catalog}
use Rattle.sm_node.specs.Seats.{Seated}
use Rattle.sm_node.specs.Nodes.{Node, world_with}
use Rattle.sm_node.specs.Parts.{devices}
use Rattle.sm_node.specs.Pending.{later, ahead}
use Rattle.sm_node.specs.Turning.{RootTurns}
use Rattle.sm_node.specs.Halved.{IsRecordOf, IsOpen, FoundAt, IsHalved, world_at}
use Rattle.sm_node.proofs.Fallen.{ahead_same}
use Rattle.sm_node.proofs.NodeTurning.{held_long}
use Rattle.sm_node.proofs.HalfSteps.{DiffersAt, found_step, no_side, stays_none, joined_before, world_before, world_after, later_same, later_none, later_some, left_back}

module _ {D : Type 0} (state : D → DiskState) (d : Deed) (s : Side) (n : Node D) (h : IsHalved state d s n) (root : Registered D Catalog) where
  differs : DiffersAt 0 n.root.disk root.disk (devices n) (devices (record n { root = root }))
  differs = (refl, refl, behind)
    where
      behind : (j : ℕ) → j ≢ 0 → slice_get (devices (record n { root = root })) j ≡ slice_get (devices n) j
      behind zero ne = absurd (ne refl)
      behind (suc j) ne = refl

  -- a restart that read nothing leaves the catalogue of before
  held_before : (r : Side) → r ≡ Before → of_side r n.root.held n.root.after ≡ Some root.held → n.root.held ≡ root.held
  held_before Before e is = cc
  held_before After e is = absurd (cc)

  held : (r : Side) → RootTurns state r n.root root → IsRecordOf n.lengths root.held (world_at (joined s r) d)
  unfolding IsOpen
  held Before t =
      subst (λ (w : Up). IsRecordOf n.lengths root.held w) (sym (world_before s Before d refl))
      (subst (λ (k : Catalog). IsRecordOf n.lengths k (world_at s d)) (held_before Before refl t.held) h.held)
  held After t = elim (cases_eq h.seat 0) [
    | inl z ↦
        let is_open : IsOpen n h.seat = subst (IsOpen n) (sym z) t.turns.0 in
        subst (λ (w : Up). IsRecordOf n.lengths root.held w) (sym (world_after s d))
        (subst (λ (k : Catalog). IsRecordOf n.lengths k d.new) (later_some n.root.after n.root.held root.held t.held) (h.ahead is_open))
    | inr ne ↦ absurd (t.turns.0 (h.decided.root ne))
  ]

  open_behind : (k : ℕ) → k ≢ 0 → IsOpen (record n { root = root }) k → IsOpen n k
  unfolding IsOpen
  open_behind zero ne o = absurd (ne refl)
  open_behind (suc i) ne o = o

  open_root : (r : Side) → RootTurns state r n.root root → (root.after ≡ None → ⊥) → n.root.after ≡ None → ⊥
  open_root r t o e = o (stays_none r _ _ _ n.root.after root.after t.turns e)

  -- what the catalogue ahead is, where a commit is still open
  same_ahead : (r : Side) → RootTurns state r n.root root → IsOpen (record n { root = root }) h.seat → (later n.root.after n.root.held ≡ later root.after root.held) × IsOpen n h.seat
  unfolding IsOpen
  same_ahead r t o = elim (cases_eq h.seat 0) [
    | inl z ↦
        let here : root.after ≡ None → ⊥ = subst (IsOpen (record n { root = root })) z o in
        (later_same n.root.after root.after n.root.held root.held t.after here, subst (IsOpen n) (sym z) (open_root r t here))
    | inr ne ↦
        let none = h.decided.root ne in
        let before = no_side r _ _ _ n.root.after root.after none t.turns in
        (later_none n.root.after n.root.held none ∙ held_before r before t.held ∙ sym (later_none root.after root.held (stays_none r _ _ _ n.root.after root.after t.turns none)), open_behind h.seat ne o)
  ]

  record_ahead : (r : Side) → RootTurns state r n.root root → IsOpen (record n { root = root }) h.seat → IsRecordOf n.lengths (later root.after root.held) d.new
  record_ahead r t o =
      let same = same_ahead r t o in
      subst (λ (k : Catalog). IsRecordOf n.lengths k d.new) same.0 (h.ahead same.1)

  found : (r : Side) → RootTurns state r n.root root → (k : ℕ) → k ≡ h.seat → FoundAt state s h.slot n k → FoundAt state (joined s r) h.slot (record n { root = root }) k
  unfolding FoundAt
  found r t zero e f = found_step s r _ _ h.slot _ _ n.root.after root.after (λ told. subst IsTrue t.goes.told told) f t.turns
  found r t (suc i) e f =
      let before = no_side r _ _ _ n.root.after root.after (h.decided.root (λ z. let bad : suc i ≡ 0 = e ∙ z in omega (arith, bad))) t.turns in
      subst (λ (u : Side). FoundAt state u h.slot n (suc i)) (sym (joined_before s r before)) f

  -- without bytes
  none_ahead : h.seat ≡ 0 → map ahead n.seats ≡ n.seats
  none_ahead z = ahead_same n.seats (λ i m e. h.decided.volumes i m e (λ f. let bad : 0 ≡ suc i = sym z ∙ f in omega (arith, bad)))

  bare_now : (r : Side) → RootTurns state r n.root root → blanked (opened (world_with root.held n.seats n.lengths)) ≡ blanked (opened (world_at (joined s r) d))
  unfolding IsOpen
  bare_now Before t =
      ap (λ (k : Catalog). blanked (opened (world_with k n.seats n.lengths))) (sym (held_before Before refl t.held)) ∙ h.bare_now
      ∙ ap (λ (w : Up). blanked (opened w)) (sym (world_before s Before d refl))
  bare_now After t = elim (cases_eq h.seat 0) [
    | inl z ↦
        let is_open : IsOpen n h.seat = subst (IsOpen n) (sym z) t.turns.0 in
        ap (λ (k : Catalog). blanked (opened (world_with k n.seats n.lengths))) (sym (later_some n.root.after n.root.held root.held t.held))
        ∙ ap (λ (ms : List (Seated D)). blanked (opened (world_with (later n.root.after n.root.held) ms n.lengths))) (sym (none_ahead z))
        ∙ h.bare_ahead is_open ∙ ap (λ (w : Up). blanked (opened w)) (sym (world_after s d))
    | inr ne ↦ absurd (t.turns.0 (h.decided.root ne))
  ]

  bare_ahead : (r : Side) → RootTurns state r n.root root → IsOpen (record n { root = root }) h.seat → blanked (opened (world_with (later root.after root.held) (map ahead n.seats) n.lengths)) ≡ blanked (opened d.new)
  bare_ahead r t o =
      let same = same_ahead r t o in
      ap (λ (k : Catalog). blanked (opened (world_with k (map ahead n.seats) n.lengths))) (sym same.0) ∙ h.bare_ahead same.1

  pub root_half : (r : Side) → RootTurns state r n.root root → length n.root.held.volumes ≤ length n.seats → IsHalved state d (joined s r) (record n { root = root })
  root_half r t less = record {
    seat = h.seat;
    slot = h.slot;
    is_seat = h.is_seat;
    one_of_two = h.one_of_two;
    shown = λ images left. h.shown images (left_back state 0 n.root.disk root.disk (devices n) (devices (record n { root = root })) images differs t.goes left);
    decided = record { root = λ ne. stays_none r _ _ _ n.root.after root.after t.turns (h.decided.root ne); volumes = h.decided.volumes };
    found = found r t h.seat refl h.found;
    held = held r t;
    ahead = record_ahead r t;
    long = record { held = (held_long state r n root.held h.long less t.held).1; after = λ k e. h.long.after k (t.after k e) };
    bare_now = bare_now r t;
    bare_ahead = bare_ahead r t;
  }
