-- The crash clause of an event that changes one disk.
use Rattle.std.proofs.Common.{◌≡◌, ◌≢◌, ◌⊎◌, inl, inr, ℕ, zero, suc, true, List, ◌∷◌, map, Some, refl, sym, ◌∙◌, ap, subst}
use Rattle.std.specs.Prelude.{slice_get, slice_set, Option}
use Rattle.std.proofs.lemmas.List.{length-map, length-set, map-set}
use Rattle.std.proofs.lemmas.Option.{slice_get_within}
use Rattle.sm_disk.specs.Image.{Image}
use Rattle.sm_disk.specs.Disk.{DiskState, GoesOn}
use Rattle.sm_slots.specs.Stored.{stored}
use Rattle.sm_seats.specs.Seats.{GoesWhole}
use Rattle.sm_seats.specs.Moves.{ShowsNow}
use Rattle.sm_defs.specs.Volume.{Volume}
use Rattle.sm_defs.specs.World.{Up}
use Rattle.sm_model.specs.Answers.{volno}
use Rattle.sm_register.specs.Registered as register
use Rattle.sm_register.specs.Registered.{Registered}
use Rattle.sm_catroot.specs.Catalog.{Catalog}
use Rattle.sm_catroot.specs.Condition.{IsCatalog}
use Rattle.sm_catroot.specs.Kept.{ShowsCatalog}
use Rattle.sm_volume.specs.Mounted.{Mounted}
use Rattle.sm_volume.specs.Shown.{Selects, SelectsAfter, Shows}
use Rattle.sm_volume.specs.Kept.{IsKept}
use Rattle.sm_node.specs.Seats.{Seated, device, moved}
use Rattle.sm_node.specs.Nodes.{Node, world_of}
use Rattle.sm_node.specs.Parts.{devices, part, StandsUp}
use Rattle.sm_seats.proofs.Lists.{one_value}
use Rattle.sm_node.proofs.Lists.{get_set_other, get_set_same, mapped_at, mapped_to}
use Rattle.sm_node.proofs.Worlds.{placed_at, catalog_kept, shows_placed}

-- a volume that is up is the one that its images show
pub shown_up : {D : Type 0} (state : D → DiskState) (m : Mounted D) → IsKept state m → m.up ≡ true → (c : Image) → (state m.disk).may_leave c → Selects m.selected m.number m.volume c
shown_up state m kept up c may = elim (kept.left c may) [
  | inl now ↦ now
  | inr later ↦ absurd (subst (λ (o : Option Volume). SelectsAfter m.selected m.number o c) (kept.decided up) later)
]

pub held_up : {D : Type 0} (state : D → DiskState) (r : Registered D Catalog) → register.IsKept state IsCatalog ShowsCatalog r → r.up ≡ true → (c : Image) → (state r.disk).may_leave c → ShowsCatalog r.held (stored c)
held_up state r kept up c may = elim (kept.left c may) [
  | inl now ↦ now.shown
  | inr later ↦ absurd (subst (λ (o : Option Catalog). register.SelectsAfter ShowsCatalog r.selected o c) (kept.decided up) later)
]

-- each disk of a node that is up shows its part of the world
pub parts_now : {D : Type 0} (state : D → DiskState) (n : Node D) → StandsUp state n → ShowsNow state (part (world_of n)) (devices n)
unfolding part
parts_now state n h zero x e c may =
    let same : n.root.disk ≡ x = cc in
    record {
      catalog = n.root.held;
      shown = held_up state n.root h.root h.up.root c (subst (λ (y : _). (state y).may_leave c) (sym same) may);
      is = catalog_kept n.root.held n.seats n.lengths h.node.as_many;
    }
parts_now state n h (suc i) x e c may = λ v f.
    let at = placed_at n.root.held.volumes n.seats i v f in
    let there = mapped_at device n.seats i x e in
    let s = at.1 in
    let same : there.0 ≡ s = one_value (slice_get n.seats i) there.0 s there.1 at.3 in
    let here : device s ≡ x = ap device (sym same) ∙ there.2 in
    let seat = h.node.seated i s at.3 in
    let one = shown_up state s.volume seat.kept (h.up.volumes i s at.3) c (subst (λ (y : _). (state y).may_leave c) (sym here) may) in
    subst (λ (u : Volume). Shows (volno i) u c) (sym at.4) (shows_placed (volno i) at.0 s.volume.volume c (subst (λ k. Shows k s.volume.volume c) seat.numbered one.shows))

pub others_stay : {D : Type 0} (root : D) (seats : List (Seated D)) (i : ℕ) (s : Seated D) (d : ℕ) → d ≢ suc i → slice_get (root ∷ map device (slice_set seats i s)) d ≡ slice_get (root ∷ map device seats) d
others_stay root seats i s zero ne = refl
others_stay root seats i s (suc d) ne = ap (λ (xs : List _). slice_get xs d) (map-set device seats i s) ∙ get_set_other (map device seats) i d (device s) (λ f. ne (ap suc f))

-- the disk of a volume moves
pub volume_goes_whole : {D : Type 0} (state : D → DiskState) (n : Node D) → StandsUp state n → (at : ℕ) (s : Seated D) (m : Mounted D) → slice_get n.seats at ≡ Some s → (after : Up)
    → GoesOn (state (device s)) (state m.disk) (λ c. part (world_of n) (suc at) c ⊎ part after (suc at) c)
    → ((seat : ℕ) → seat ≢ suc at → (c : Image) → part (world_of n) seat c → part after seat c)
    → GoesWhole state (suc at) (part (world_of n)) (part after) (devices n) (devices (record n { seats = slice_set n.seats at (moved s m) }))
volume_goes_whole state n h at s m was after goes rest = h.one_changes (suc at) (world_of n) after (devices n) (devices (record n { seats = slice_set n.seats at (moved s m) })) (record {
  old = device s;
  new = m.disk;
  was = mapped_to device n.seats at s was;
  is = mapped_to device (slice_set n.seats at (moved s m)) at (moved s m) (get_set_same n.seats at (moved s m) (slice_get_within n.seats at s was));
  kept = others_stay n.root.disk n.seats at (moved s m);
  as_long = ap suc (length-map (slice_set n.seats at (moved s m)) device ∙ length-set n.seats at (moved s m) ∙ sym (length-map n.seats device));
  start = parts_now state n h;
  goes = goes;
  rest = rest;
})

root_only : {D : Type 0} (r r' : D) (ds : List D) (seat : ℕ) → seat ≢ 0 → slice_get (r' ∷ ds) seat ≡ slice_get (r ∷ ds) seat
root_only r r' ds zero ne = absurd (ne refl)
root_only r r' ds (suc d) ne = refl

-- the disk of the catalogue moves
pub root_goes_whole : {D : Type 0} (state : D → DiskState) (n : Node D) → StandsUp state n → (root : Registered D Catalog) (after : Up)
    → GoesOn (state n.root.disk) (state root.disk) (λ c. part (world_of n) 0 c ⊎ part after 0 c)
    → ((seat : ℕ) → seat ≢ 0 → (c : Image) → part (world_of n) seat c → part after seat c)
    → GoesWhole state 0 (part (world_of n)) (part after) (devices n) (devices (record n { root = root }))
root_goes_whole state n h root after goes rest = h.one_changes 0 (world_of n) after (devices n) (devices (record n { root = root })) (record {
  old = n.root.disk;
  new = root.disk;
  was = refl;
  is = refl;
  kept = root_only n.root.disk root.disk (map device n.seats);
  as_long = refl;
  start = parts_now state n h;
  goes = goes;
  rest = rest;
})
