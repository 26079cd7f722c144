-- A node that was down, after a restart.
use Rattle.std.proofs.Common.{◌≡◌, inl, inr, ℕ, suc, ◌≤◌, List, [], ◌∷◌, ◌++◌, length, map, refl, sym, ◌∙◌, ap, subst, Some, None, IsTrue, append-nil, arith}
use Rattle.std.specs.Prelude.{slice_get, slice_set}
use Rattle.std.proofs.lemmas.List.{map_push}
use Rattle.std.proofs.lemmas.Bool.{cases_eq}
use Rattle.std.proofs.lemmas.Option.{same_Some, slice_get_within}
use Rattle.sm_base.specs.declared.numbers.Side.{Side}
use Rattle.sm_disk.specs.Disk.{DiskState, IsSynced}
use Rattle.sm_seats.specs.Seats.{GoesWhole}
use Rattle.sm_defs.specs.Volume.{Volume}
use Rattle.sm_defs.specs.World.{Up}
use Rattle.sm_model.specs.World.{Deed}
use Rattle.sm_shape.specs.Blanked.{blanked}
use Rattle.sm_register.specs.Registered as register
use Rattle.sm_register.specs.Registered.{Registered}
use Rattle.sm_catroot.specs.declared.placed.Placed.{Placed}
use Rattle.sm_catroot.specs.Catalog.{Catalog}
use Rattle.sm_catroot.specs.Condition.{IsCatalog}
use Rattle.sm_catroot.specs.Kept.{ShowsCatalog}
use Rattle.sm_node.specs.Seats.{Seated, device, moved}
use Rattle.sm_node.specs.Nodes.{Node, placed, all_placed, world_of, IsNode, IsUp}
use Rattle.sm_node.specs.Parts.{devices, part}
use Rattle.sm_node.specs.Pending.{NonePending, NothingPending}
use Rattle.sm_node.specs.Turning.{none, more, whole, cut}
use Rattle.sm_node.specs.Turning.{InTurn, NodeTurns, AllAreBack, AllDisksTold, AllSynced, IsTrimmed, RestartsAll}
use Rattle.sm_node.specs.Halved.{IsHalved}
use Rattle.sm_node.specs.Returning.{GoesInPair, Returns, StaysDown}
use Rattle.sm_seats.proofs.Lists.{some_at, one_value}
use Rattle.sm_node.proofs.Lists.{get_set_other, get_set_same, mapped_to}
use Rattle.sm_node.proofs.Trimming.{get_front, get_last, last_within}
use Rattle.sm_node.proofs.SeatTurning.{turn_long}
use Rattle.sm_node.proofs.NodeTurning.{node_turned}
use Rattle.sm_node.proofs.HalfSteps.{no_side, stays_none, joined_before}
use Rattle.sm_node.proofs.HalfTurns.{node_half, seat_goes, turns_whole}
use Rattle.sm_node.proofs.BackAgain.{bare_again, world_again}

-- ---- the volume behind the others is taken off

pub placed_front : {D : Type 0} (ps : List Placed) (front : List (Seated D)) (last : Seated D) → length ps ≤ length front → all_placed ps (front ++ last ∷ []) ≡ all_placed ps front
unfolding all_placed
placed_front [] front last le = refl
placed_front (p ∷ ps) [] last le = absurd (omega (arith, le))
placed_front (p ∷ ps) (s ∷ front) last le = ap (λ (vs : List Volume). placed p s.volume ∷ vs) (placed_front ps front last (omega (arith, le)))

module _ {D : Type 0} where
  trim_world : {n n' : Node D} → IsTrimmed n n' → world_of n' ≡ world_of n
  trim_world (whole as_many) = refl
  trim_world (cut {n = n} front last seats long) =
      ap (λ (vs : List Volume). let w : Up = record (world_of n) { volumes = vs } in w)
      (sym (placed_front n.root.held.volumes front last (omega (arith, long))) ∙ ap (λ (ss : List (Seated D)). all_placed n.root.held.volumes ss) (sym seats))

  trim_root : {n n' : Node D} → IsTrimmed n n' → n'.root ≡ n.root
  trim_root (whole as_many) = refl
  trim_root (cut front last seats long) = refl

  trim_devices : {n n' : Node D} → IsTrimmed n n' → (taken_off : List D) × (devices n ≡ devices n' ++ taken_off)
  trim_devices (whole {n = n} as_many) = ([], sym (append-nil (devices n)))
  trim_devices (cut {n = n} front last seats long) =
      (device last ∷ [], ap (λ (ss : List (Seated D)). n.root.disk ∷ map device ss) seats ∙ ap (λ (ds : List D). n.root.disk ∷ ds) (map_push device front last))

  trim_up : (state : D → DiskState) {n n' : Node D} → IsTrimmed n n' → AllAreBack state n → IsUp n'
  trim_up state (whole as_many) back = record { root = back.root; as_many = sym as_many; volumes = λ i s e. (back.volumes i s e).up }
  trim_up state (cut {n = n} front last seats long) back = record {
    root = back.root;
    as_many = sym long;
    volumes = λ i s e. (back.volumes i s (ap (λ (ss : List (Seated D)). slice_get ss i) seats ∙ get_front front last i s e)).up;
  }

module _ {D : Type 0} (state : D → DiskState) where
  trim_synced : {n n' : Node D} → IsTrimmed n n' → IsNode state n → AllSynced state n → AllSynced state n'
  trim_synced (whole as_many) is synced = synced
  trim_synced (cut {n = n} front last seats long) is synced = record {
    root = synced.root;
    seats = λ i s e. synced.seats i s (ap (λ (ss : List (Seated D)). slice_get ss i) seats ∙ get_front front last i s e);
    spares = λ k x e. elim (cases_eq k last.disk) [
      | inl same ↦
          let here : slice_get (slice_set n.spares last.disk (Some (device last))) last.disk ≡ Some (Some x) = subst (λ (j : ℕ). slice_get (slice_set n.spares last.disk (Some (device last))) j ≡ Some (Some x)) same e in
          let there = get_set_same n.spares last.disk (Some (device last)) (last_within front last state n is seats) in
          let found : device last ≡ x = same_Some (device last) x (same_Some (Some (device last)) (Some x) (sym there ∙ here)) in
          subst (λ (y : D). IsSynced (state y)) found (synced.seats (length front) last (ap (λ (ss : List (Seated D)). slice_get ss (length front)) seats ∙ get_last front last))
      | inr ne ↦ synced.spares k x (sym (get_set_other n.spares last.disk k (Some (device last)) ne) ∙ e)
    ];
  }

  told_still : (n n' : Node D) (s t : Side) → NodeTurns state n s n' t → AllDisksTold state n → AllDisksTold state n'
  told_still n n' s t h told = (
    subst IsTrue (sym h.root.goes.told) told.0,
    λ i m e.
        let x = some_at n.seats i (let lt = slice_get_within n'.seats i m e in let long = turn_long state h.volumes in omega (arith, lt, long)) in
        subst IsTrue (sym (seat_goes state n n' s t h (suc i) (device x.0) (device m) (mapped_to device n.seats i x.0 x.1) (mapped_to device n'.seats i m e)).told) (told.1 i x.0 x.1),
  )

  -- ---- all disks were restarted

  module _ (old new : Node D) (s t : Side) (h : RestartsAll state old s new t) (is : IsNode state old) (root : register.IsKept state IsCatalog ShowsCatalog new.root) (d : Deed) (half : IsHalved state d s old) where
    half_turned : IsHalved state d t h.turned
    half_turned = node_half state d old h.turned s t h.turns is.as_many half

    turned_is : IsNode state h.turned
    turned_is = node_turned state old h.turned s t h.turns half.long is

    root_turned : register.IsKept state IsCatalog ShowsCatalog h.turned.root
    root_turned = subst (λ (r : Registered D Catalog). register.IsKept state IsCatalog ShowsCatalog r) (trim_root h.trims) root

    goes : (taken_off : List D) × GoesInPair state d (devices old) (devices new ++ taken_off)
    goes =
        let rest = trim_devices h.trims in
        (rest.0, (half.seat, subst (λ (ds : List D). GoesWhole state half.seat (part d.old) (part d.new) (devices old) ds) rest.1 (turns_whole state old h.turned s t h.turns d half)))

    pub returns_by : Returns state d old new t
    returns_by = record {
      up = trim_up state h.trims h.back;
      world = λ told. trim_world h.trims ∙ world_again state d t h.turned half_turned h.back root_turned turned_is (told_still old h.turned s t h.turns told);
      without_bytes = ap (λ (w : Up). blanked w) (trim_world h.trims) ∙ bare_again state d t h.turned half_turned h.back root_turned turned_is;
      synced = trim_synced h.trims turned_is h.back.synced;
      whole = goes;
    }

  -- ---- a disk failed

  pub stays_down : (old new : Node D) (s t : Side) → NodeTurns state old s new t → IsNode state old → (d : Deed) → IsHalved state d s old → StaysDown state d old new t
  stays_down old new s t h is d half = record {
    down = node_half state d old new s t h is.as_many half;
    whole = (half.seat, turns_whole state old new s t h d half);
  }

  -- ---- a node without a commit whose outcome is not known

  none_set : (seats : List (Seated D)) (at : ℕ) (old new : Seated D) → slice_get seats at ≡ Some old → new.volume.after ≡ None → NonePending seats → NonePending (slice_set seats at new)
  none_set seats at old new was here before = λ i m e. elim (cases_eq i at) [
    | inl same ↦
        let is : new ≡ m = one_value (slice_get (slice_set seats at new) at) new m (get_set_same seats at new (slice_get_within seats at old was)) (subst (λ (j : ℕ). slice_get (slice_set seats at new) j ≡ Some m) same e) in
        ap (λ (x : Seated D). x.volume.after) (sym is) ∙ here
    | inr ne ↦ before i m (sym (get_set_other seats at i new ne) ∙ e)
  ]

  still : {olds news : List (Seated D)} {s t : Side} → InTurn state olds s news t → NonePending olds → (t ≡ s) × NonePending news
  still none h = (refl, h)
  still (more {mids = mids} {t = t} i r at old new was turns) h =
      let before = still i h in
      let decided = before.1 at old was in (
        joined_before t r (no_side r _ _ _ old.volume.after new.after decided turns.turns) ∙ before.0,
        none_set mids at old (moved old new) was (stays_none r _ _ _ old.volume.after new.after turns.turns decided) before.1,
      )

  pub side_stays : (n n' : Node D) (s t : Side) → NodeTurns state n s n' t → NothingPending n → t ≡ s
  side_stays n n' s t h nothing = (still h.volumes nothing.1).0 ∙ joined_before s h.r (no_side h.r _ _ _ n.root.after n'.root.after nothing.0 h.root.turns)
