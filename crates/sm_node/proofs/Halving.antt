-- What the disks of a node show where the outcome of one commit is not known.
use Rattle.std.proofs.Common.{◌≡◌, ◌⊎◌, inl, inr, ℕ, suc, ◌-◌, ◌<◌, ◌≤◌, length, map, sym, ◌∙◌, ap, subst, Some, None, arith}
use Rattle.std.specs.Prelude.{slice_get, Option}
use Rattle.std.proofs.lemmas.List.{length-map}
use Rattle.sm_disk.specs.Image.{Image}
use Rattle.sm_disk.specs.Disk.{DiskState}
use Rattle.sm_slots.specs.Stored.{stored, slot_of}
use Rattle.sm_base.specs.declared.numbers.VolNo.{VolNo}
use Rattle.sm_defs.specs.Volume.{Volume}
use Rattle.sm_model.specs.Answers.{volno}
use Rattle.sm_volume.specs.Shown.{Selects, SelectsAfter, Shows}
use Rattle.sm_register.specs.Registered as register
use Rattle.sm_catroot.specs.Catalog.{Catalog}
use Rattle.sm_catroot.specs.Condition.{IsCatalog}
use Rattle.sm_catroot.specs.Kept.{ShowsCatalog}
use Rattle.sm_node.specs.Seats.{Seated, device}
use Rattle.sm_node.specs.Nodes.{Node, placed, world_of, IsNode}
use Rattle.sm_node.specs.Parts.{devices, part}
use Rattle.sm_node.specs.Pending.{later, ahead, world_ahead}
use Rattle.sm_seats.proofs.Lists.{one_value}
use Rattle.sm_node.proofs.Lists.{mapped_at}
use Rattle.sm_node.proofs.Worlds.{placed_at, catalog_kept, shows_placed}

-- the number of the other slot
apart : (k s : ℕ) → s < 2 → k ≡ s → k ≡ 1 - s → ⊥
apart k s lt e f = absurd (omega (arith, lt, e, f))

-- an image shows the volume where no commit is open, or where it selects the slot from before
volume_now : (selected : ℕ) (number : VolNo) (v : Volume) (o : Option Volume) (c : Image) → selected < 2 → (o ≡ None) ⊎ (slot_of c ≡ selected)
    → Selects selected number v c ⊎ SelectsAfter selected number o c → Shows number v c
volume_now selected number v o c lt h (inl now) = now.shows
volume_now selected number v None c lt h (inr next) = absurd next
volume_now selected number v (Some u) c lt (inl none) (inr next) = absurd (cc)
volume_now selected number v (Some u) c lt (inr slot) (inr next) = absurd (apart (slot_of c) selected lt slot next.state)

volume_next : (selected : ℕ) (number : VolNo) (v : Volume) (o : Option Volume) (c : Image) → selected < 2 → (o ≡ None) ⊎ (slot_of c ≡ 1 - selected)
    → Selects selected number v c ⊎ SelectsAfter selected number o c → Shows number (later o v) c
volume_next selected number v None c lt h (inl now) = now.shows
volume_next selected number v None c lt h (inr next) = absurd next
volume_next selected number v (Some u) c lt (inl none) either = absurd (cc)
volume_next selected number v (Some u) c lt (inr slot) (inl now) = absurd (apart (slot_of c) selected lt now.state slot)
volume_next selected number v (Some u) c lt (inr slot) (inr next) = next.shows

root_now : (selected : ℕ) (k : Catalog) (o : Option Catalog) (c : Image) → selected < 2 → (o ≡ None) ⊎ (slot_of c ≡ selected)
    → register.SelectsValue ShowsCatalog selected k c ⊎ register.SelectsAfter ShowsCatalog selected o c → ShowsCatalog k (stored c)
root_now selected k o c lt h (inl now) = now.shown
root_now selected k None c lt h (inr next) = absurd next
root_now selected k (Some j) c lt (inl none) (inr next) = absurd (cc)
root_now selected k (Some j) c lt (inr slot) (inr next) = absurd (apart (slot_of c) selected lt slot next.slot)

root_next : (selected : ℕ) (k : Catalog) (o : Option Catalog) (c : Image) → selected < 2 → (o ≡ None) ⊎ (slot_of c ≡ 1 - selected)
    → register.SelectsValue ShowsCatalog selected k c ⊎ register.SelectsAfter ShowsCatalog selected o c → ShowsCatalog (later o k) (stored c)
root_next selected k None c lt h (inl now) = now.shown
root_next selected k None c lt h (inr next) = absurd next
root_next selected k (Some j) c lt (inl none) either = absurd (cc)
root_next selected k (Some j) c lt (inr slot) (inl now) = absurd (apart (slot_of c) selected lt now.slot slot)
root_next selected k (Some j) c lt (inr slot) (inr next) = next.shown

module _ {D : Type 0} (state : D → DiskState) (n : Node D) (root : register.IsKept state IsCatalog ShowsCatalog n.root) (is : IsNode state n) where
  pub root_part_now : (c : Image) → (state n.root.disk).may_leave c → (n.root.after ≡ None) ⊎ (slot_of c ≡ n.root.selected) → part (world_of n) 0 c
  unfolding part
  root_part_now c may h = record {
    catalog = n.root.held;
    shown = root_now n.root.selected n.root.held n.root.after c root.one_of_two h (root.left c may);
    is = catalog_kept n.root.held n.seats n.lengths is.as_many;
  }

  pub root_part_ahead : length (later n.root.after n.root.held).volumes ≤ length n.seats → (c : Image) → (state n.root.disk).may_leave c → (n.root.after ≡ None) ⊎ (slot_of c ≡ 1 - n.root.selected) → part (world_ahead n) 0 c
  unfolding part
  root_part_ahead less c may h = record {
    catalog = later n.root.after n.root.held;
    shown = root_next n.root.selected n.root.held n.root.after c root.one_of_two h (root.left c may);
    is = catalog_kept (later n.root.after n.root.held) (map ahead n.seats) n.lengths (subst (λ (l : ℕ). length (later n.root.after n.root.held).volumes ≤ l) (sym (length-map n.seats ahead)) less);
  }

  module _ (i : ℕ) (x : D) (at : slice_get (devices n) (suc i) ≡ Some x) (c : Image) (may : (state x).may_leave c) where
    here : (s : Seated D) → slice_get n.seats i ≡ Some s → (state (device s)).may_leave c
    here s e =
        let there = mapped_at device n.seats i x at in
        let same : there.0 ≡ s = one_value (slice_get n.seats i) there.0 s there.1 e in
        subst (λ (y : D). (state y).may_leave c) (sym (ap device (sym same) ∙ there.2)) may

    pub volume_part_now : ((s : Seated D) → slice_get n.seats i ≡ Some s → (s.volume.after ≡ None) ⊎ (slot_of c ≡ s.volume.selected)) → part (world_of n) (suc i) c
    unfolding part
    volume_part_now h = λ v f.
        let p = placed_at n.root.held.volumes n.seats i v f in
        let m = p.1.volume in
        let seat = is.seated i p.1 p.3 in
        let shown = volume_now m.selected m.number m.volume m.after c seat.kept.one_of_two (h p.1 p.3) (seat.kept.left c (here p.1 p.3)) in
        subst (λ (u : Volume). Shows (volno i) u c) (sym p.4) (shows_placed (volno i) p.0 m.volume c (subst (λ k. Shows k m.volume c) seat.numbered shown))

    pub volume_part_ahead : ((s : Seated D) → slice_get n.seats i ≡ Some s → (s.volume.after ≡ None) ⊎ (slot_of c ≡ 1 - s.volume.selected)) → part (world_ahead n) (suc i) c
    unfolding part
    volume_part_ahead h = λ v f.
        let p = placed_at (later n.root.after n.root.held).volumes (map ahead n.seats) i v f in
        let q = mapped_at ahead n.seats i p.1 p.3 in
        let m = q.0.volume in
        let seat = is.seated i q.0 q.1 in
        let shown = volume_next m.selected m.number m.volume m.after c seat.kept.one_of_two (h q.0 q.1) (seat.kept.left c (here q.0 q.1)) in
        subst (λ (u : Volume). Shows (volno i) u c) (sym (p.4 ∙ ap (λ (s : Seated D). placed p.0 s.volume) (sym q.2))) (shows_placed (volno i) p.0 (later m.after m.volume) c (subst (λ k. Shows k (later m.after m.volume) c) seat.numbered shown))
