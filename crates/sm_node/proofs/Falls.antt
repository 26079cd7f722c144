-- What an event that fails leaves of a node, by slots.
use Rattle.std.proofs.Common.{◌≡◌, ◌⊎◌, inl, inr, ℕ, zero, suc, ◌-◌, ◌<◌, ◌≤◌, length, map, refl, sym, ◌∙◌, ap, subst, Some, None, arith}
use Rattle.std.specs.Prelude.{slice_get, Option}
use Rattle.std.proofs.lemmas.List.{length-map}
use Rattle.std.proofs.lemmas.Bool.{cases_eq}
use Rattle.std.proofs.lemmas.Option.{slice_get_within}
use Rattle.sm_base.specs.declared.numbers.DiskNo.{DiskNo}
use Rattle.sm_base.specs.declared.numbers.Side.TheVariants.{Before}
use Rattle.sm_disk.specs.Image.{Image}
use Rattle.sm_disk.specs.Disk.{DiskState}
use Rattle.sm_slots.specs.Stored.{slot_of}
use Rattle.sm_defs.specs.Volume.{Volume}
use Rattle.sm_defs.specs.World.{Up}
use Rattle.sm_model.specs.Answers.{Answer}
use Rattle.sm_model.specs.World.{Deed}
use Rattle.sm_model.specs.Opened.{opened}
use Rattle.sm_shape.specs.Blanked.{blanked}
use Rattle.sm_volume.specs.Shown as volume
use Rattle.sm_register.specs.Registered as register
use Rattle.sm_catroot.specs.Catalog.{Catalog}
use Rattle.sm_catroot.specs.Condition.{IsCatalog}
use Rattle.sm_catroot.specs.Kept.{ShowsCatalog}
use Rattle.sm_node.specs.Seats.{Seated, device}
use Rattle.sm_node.specs.Nodes.{Node, world_of, IsNode}
use Rattle.sm_node.specs.Parts.{devices, part, StandsUp}
use Rattle.sm_node.specs.Pending.{later, ahead, world_ahead, NothingPending, OthersDecided, IsLong}
use Rattle.sm_node.specs.Acts.{reached_of, DiskHasFailed, IsLeftOpenBy, Fails}
use Rattle.sm_node.specs.Halved.{IsRecordOf, IsOpen, FoundAt, BySlot, IsHalved}
use Rattle.sm_seats.proofs.Lists.{some_at, one_value}
use Rattle.sm_node.proofs.Lists.{mapped_at}
use Rattle.sm_node.proofs.Worlds.{catalog_kept}
use Rattle.sm_node.proofs.Fallen.{none_pending, root_none}
use Rattle.sm_node.proofs.Halving.{root_part_now, root_part_ahead, volume_part_now, volume_part_ahead}

less_ahead : (k : Catalog) (o : Option Catalog) (count : ℕ) → length k.volumes ≤ count → ((j : Catalog) → o ≡ Some j → length j.volumes ≡ count) → length (later o k).volumes ≤ count
less_ahead k None count held after = held
less_ahead k (Some j) count held after = let e = after j refl in omega (arith, e)

module _ {D : Type 0} (state : D → DiskState) (n : Node D) (root : register.IsKept state IsCatalog ShowsCatalog n.root) (is : IsNode state n) (k slot : ℕ) (decided : OthersDecided k n) (long : IsLong n)
    (one_of_two : slot < 2) (sel_root : k ≡ 0 → n.root.selected ≡ slot) (sel_volume : (i : ℕ) (s : Seated D) → slice_get n.seats i ≡ Some s → k ≡ suc i → s.volume.selected ≡ slot) where
  less : length (later n.root.after n.root.held).volumes ≤ length n.seats
  less = less_ahead n.root.held n.root.after (length n.seats) is.as_many long.after

  now_part : (d : ℕ) (x : D) → slice_get (devices n) d ≡ Some x → (c : Image) → (state x).may_leave c → (d ≡ k → slot_of c ≡ slot) → part (world_of n) d c
  now_part zero x e c may h =
      let same : n.root.disk ≡ x = cc in
      root_part_now state n root is c (subst (λ (y : D). (state y).may_leave c) (sym same) may) (elim (cases_eq k 0) [
        | inl z ↦ inr (h (sym z) ∙ sym (sel_root z))
        | inr ne ↦ inl (decided.root ne)
      ])
  now_part (suc i) x e c may h = volume_part_now state n root is i x e c may (λ m f. elim (cases_eq k (suc i)) [
    | inl z ↦ inr (h (sym z) ∙ sym (sel_volume i m f z))
    | inr ne ↦ inl (decided.volumes i m f ne)
  ])

  ahead_part : (d : ℕ) (x : D) → slice_get (devices n) d ≡ Some x → (c : Image) → (state x).may_leave c → (d ≡ k → slot_of c ≡ 1 - slot) → part (world_ahead n) d c
  ahead_part zero x e c may h =
      let same : n.root.disk ≡ x = cc in
      root_part_ahead state n root is less c (subst (λ (y : D). (state y).may_leave c) (sym same) may) (elim (cases_eq k 0) [
        | inl z ↦ inr (h (sym z) ∙ sym (ap (λ (s : ℕ). 1 - s) (sel_root z)))
        | inr ne ↦ inl (decided.root ne)
      ])
  ahead_part (suc i) x e c may h = volume_part_ahead state n root is i x e c may (λ m f. elim (cases_eq k (suc i)) [
    | inl z ↦ inr (h (sym z) ∙ sym (ap (λ (s : ℕ). 1 - s) (sel_volume i m f z)))
    | inr ne ↦ inl (decided.volumes i m f ne)
  ])

  -- where nothing is pending the slot stays
  slot_at : (d : ℕ) → d ≡ k → (x : D) → slice_get (devices n) d ≡ Some x → (c : Image) → (state x).may_leave c → NothingPending n → slot_of c ≡ slot
  slot_at zero here x e c may none =
      let same : n.root.disk ≡ x = cc in
      elim (root.left c (subst (λ (y : D). (state y).may_leave c) (sym same) may)) [
        | inl now ↦ now.slot ∙ sel_root (sym here)
        | inr next ↦ absurd (subst (λ (o : Option Catalog). register.SelectsAfter ShowsCatalog n.root.selected o c) none.0 next)
      ]
  slot_at (suc i) here x e c may none =
      let there = mapped_at device n.seats i x e in
      let m = there.0.volume in
      elim ((is.seated i there.0 there.1).kept.left c (subst (λ (y : D). (state y).may_leave c) (sym there.2) may)) [
        | inl now ↦ now.state ∙ sel_volume i there.0 there.1 (sym here)
        | inr next ↦ absurd (subst (λ (o : Option Volume). volume.SelectsAfter m.selected m.number o c) (none.1 i there.0 there.1) next)
      ]

  found : (d : ℕ) → d ≡ k → FoundAt state Before slot n d
  unfolding FoundAt
  found zero here = λ told. sel_root (sym here)
  found (suc i) here = λ m e told. sel_volume i m e (sym here)

  none_open : (d : ℕ) → NothingPending n → IsOpen n d → ⊥
  unfolding IsOpen
  none_open zero none is_open = is_open none.0
  none_open (suc i) none is_open = is_open.2 (none.1 i is_open.0 is_open.1)

  module _ (is_seat : k < length (devices n)) (d : Deed) (before : world_of n ≡ d.old) (after : (world_ahead n ≡ d.new) ⊎ NothingPending n) where
    shown : BySlot state k slot (part d.old) (part d.new) (devices n)
    shown = λ images left. (
      λ e j lt.
          let x = some_at (devices n) j lt in
          subst (λ (w : Up). part w j (images j)) before (now_part j x.0 x.1 (images j) (left j x.0 x.1) (λ same. ap (λ (l : ℕ). slot_of (images l)) same ∙ e)),
      λ e j lt. elim after [
        | inl same ↦
            let x = some_at (devices n) j lt in
            subst (λ (w : Up). part w j (images j)) same (ahead_part j x.0 x.1 (images j) (left j x.0 x.1) (λ here. ap (λ (l : ℕ). slot_of (images l)) here ∙ e))
        | inr none ↦
            let x = some_at (devices n) k is_seat in
            let stays = slot_at k refl x.0 x.1 (images k) (left k x.0 x.1) none in
            absurd (omega (arith, one_of_two, stays, e))
      ],
    )

    halved : IsHalved state d Before n
    halved = record {
      seat = k;
      slot = slot;
      is_seat = is_seat;
      one_of_two = one_of_two;
      shown = shown;
      decided = decided;
      found = found k refl;
      held = subst (λ (w : Up). IsRecordOf n.lengths n.root.held w) before (catalog_kept n.root.held n.seats n.lengths is.as_many, refl);
      ahead = λ is_open. elim after [
        | inl same ↦ subst (λ (w : Up). IsRecordOf n.lengths (later n.root.after n.root.held) w) same
            (catalog_kept (later n.root.after n.root.held) (map ahead n.seats) n.lengths (subst (λ (l : ℕ). length (later n.root.after n.root.held).volumes ≤ l) (sym (length-map n.seats ahead)) less), refl)
        | inr none ↦ absurd (none_open k none is_open)
      ];
      long = long;
      bare_now = ap (λ (w : Up). blanked (opened w)) before;
      bare_ahead = λ is_open. elim after [
        | inl same ↦ ap (λ (w : Up). blanked (opened w)) same
        | inr none ↦ absurd (none_open k none is_open)
      ];
    }

module _ {D : Type 0} (state : D → DiskState) where
  -- the slot that the seat selects is the one of the world before
  pub falls : (n : Node D) → register.IsKept state IsCatalog ShowsCatalog n.root → IsNode state n → (k : ℕ) → k < length (devices n) → OthersDecided k n → IsLong n
      → (d : Deed) → world_of n ≡ d.old → (world_ahead n ≡ d.new) ⊎ NothingPending n → IsHalved state d Before n
  falls n root is zero lt decided long d before after =
      halved state n root is 0 n.root.selected decided long root.one_of_two (λ e. refl) (λ i m e z. absurd (let bad : 0 ≡ suc i = z in omega (arith, bad))) lt d before after
  falls n root is (suc i) lt decided long d before after =
      let x = some_at n.seats i (let l = length-map n.seats device in omega (arith, lt, l)) in
      halved state n root is (suc i) x.0.volume.selected decided long (is.seated i x.0 x.1).kept.one_of_two (λ e. absurd (let bad : suc i ≡ 0 = e in omega (arith, bad)))
      (λ j m e z. let same : i ≡ j = omega (arith, z) in ap (λ (y : Seated D). y.volume.selected) (one_value (slice_get n.seats i) m x.0 (subst (λ (l : ℕ). slice_get n.seats l ≡ Some m) (sym same) e) x.1))
      lt d before after

  -- an event that fails leaves a node that is down by slots
  pub fails_halved : (a : Answer) (disk : DiskNo) (count : ℕ) (old new : Node D) → Fails state a disk count old new → register.IsKept state IsCatalog ShowsCatalog new.root → IsNode state new
      → (d : Deed) → world_of old ≡ d.old → reached_of (world_of old) a ≡ d.new → IsHalved state d Before new
  fails_halved a disk count old new h root is d before after =
      by_disk h.failed h.left_open
    where
      then : (world_ahead new ≡ d.new) ⊎ NothingPending new
      then = elim h.fallen.after [
        | inl same ↦ inl (same ∙ after)
        | inr none ↦ inr none
      ]

      -- a disk at hand has nothing pending, and none of those at seats
      by_disk : (failed : DiskHasFailed state (world_of old) disk count old new) → IsLeftOpenBy state (world_of old) disk count old new failed → IsHalved state d Before new
      by_disk (inl f) open_at = falls new root is f.seat (slice_get_within (devices new) f.seat f.new f.is) open_at.decided open_at.long d (h.fallen.before ∙ before) then
      by_disk (inr f) left = falls new root is 0 (omega arith) (record { root = λ ne. left.0.0; volumes = λ i m e ne. left.0.1 i m e }) left.1 d (h.fallen.before ∙ before) then

  -- a node that is up is one too, with its world twice
  pub up_halved : (n : Node D) → StandsUp state n → (d : Deed) → world_of n ≡ d.old → IsHalved state d Before n
  up_halved n h d before =
      let none = root_none state n h in
      let pending = none_pending state n h in
      falls n h.root h.node 0 (omega arith) (record { root = λ ne. none; volumes = λ i m e ne. pending i m e })
      (record { held = let same = h.up.as_many in omega (arith, same); after = λ k e. absurd (let g = sym none ∙ e in cc) })
      d before (inr (none, pending))

  pub up_nothing : (n : Node D) → StandsUp state n → NothingPending n
  up_nothing n h = (root_none state n h, none_pending state n h)
