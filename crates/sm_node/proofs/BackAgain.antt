-- A node of which each disk was restarted shows the world that the side tells.
use Rattle.std.proofs.Common.{◌≡◌, inl, inr, ℕ, zero, suc, ◌-◌, ◌<◌, ◌≤◌, List, [], ◌∷◌, length, map, refl, sym, ◌∙◌, ap, subst, Some, None, IsTrue, arith}
use Rattle.std.specs.Prelude.{slice_get, Option}
use Rattle.std.proofs.lemmas.List.{length-map}
use Rattle.std.proofs.lemmas.Option.{slice_get_within}
use Rattle.sm_base.specs.declared.numbers.Side.{Side}
use Rattle.sm_base.specs.declared.numbers.Side.TheVariants.{Before, After}
use Rattle.sm_disk.specs.Image.{Image}
use Rattle.sm_disk.specs.Disk.{DiskState}
use Rattle.sm_slots.specs.Stored.{slot_of}
use Rattle.sm_seats.specs.Seats.{Shown, Left}
use Rattle.sm_defs.specs.Volume.{Volume}
use Rattle.sm_defs.specs.World.{Up}
use Rattle.sm_model.specs.Answers.{volno}
use Rattle.sm_model.specs.World.{Deed}
use Rattle.sm_model.specs.Opened as model
use Rattle.sm_shape.specs.Blanked.{zeroed_volume, blanked}
use Rattle.sm_volume.specs.Mounted.{opened}
use Rattle.sm_volume.specs.Shown.{Shows}
use Rattle.sm_register.specs.Registered as register
use Rattle.sm_catroot.specs.declared.placed.Placed.{Placed}
use Rattle.sm_catroot.specs.Catalog.{Catalog}
use Rattle.sm_catroot.specs.Condition.{IsCatalog}
use Rattle.sm_catroot.specs.Kept.{ShowsCatalog}
use Rattle.sm_node.specs.Seats.{Seated, device}
use Rattle.sm_node.specs.Nodes.{Node, placed, all_placed, world_with, world_of, IsNode}
use Rattle.sm_node.specs.Parts.{devices, part, place_of}
use Rattle.sm_node.specs.Turning.{IsBack, AllAreBack, AllDisksTold}
use Rattle.sm_node.specs.Halved.{IsRecordOf, FoundAt, IsHalved, world_at}
use Rattle.sm_seats.proofs.Lists.{some_at}
use Rattle.sm_node.proofs.Lists.{mapped_at, mapped_to}
use Rattle.sm_node.proofs.SeatLemmas.{shown_up}
use Rattle.sm_node.proofs.Worlds.{catalog_kept}
use Rattle.sm_node.proofs.OneVolume.{restart_finds}

-- what the disk of a seat reads
abbrev pub seen_by : {D : Type 0} → (D → DiskState) → Option D → Image
seen_by state None = λ place. 0
seen_by state (Some x) = (state x).seen

-- each mounted volume is the one of its place, as a restart leaves it
all_reopened : {D : Type 0} (vs : List Volume) (seats : List (Seated D)) → length vs ≤ length seats → ((i : ℕ) (v : Volume) (s : Seated D) → slice_get vs i ≡ Some v → slice_get seats i ≡ Some s → placed (place_of v) s.volume ≡ opened v)
    → all_placed (map place_of vs) seats ≡ map opened vs
unfolding all_placed
all_reopened [] seats le each = refl
all_reopened (v ∷ vs) [] le each = absurd (omega (arith, le))
all_reopened (v ∷ vs) (s ∷ seats) le each =
    ap (λ (u : Volume). u ∷ all_placed (map place_of vs) seats) (each 0 v s refl refl)
    ∙ ap (λ (us : List Volume). opened v ∷ us) (all_reopened vs seats (omega (arith, le)) (λ i u k e f. each (suc i) u k e f))

-- volumes without bytes that are as a restart leaves them
placed_rest : {D : Type 0} (state : D → DiskState) (ps : List Placed) (seats : List (Seated D)) → ((i : ℕ) (s : Seated D) → slice_get seats i ≡ Some s → IsBack state s.volume)
    → map zeroed_volume (all_placed ps seats) ≡ map zeroed_volume (map opened (all_placed ps seats))
unfolding all_placed
placed_rest state [] seats back = refl
placed_rest state (p ∷ ps) [] back = refl
placed_rest state (p ∷ ps) (s ∷ seats) back =
    ap (λ (v : Volume). let u : Volume = record v { path = p.path; disk = p.disk.0 } in u ∷ map zeroed_volume (all_placed ps seats)) (back 0 s refl).bare
    ∙ ap (λ (vs : List Volume). zeroed_volume (opened (placed p s.volume)) ∷ vs) (placed_rest state ps seats (λ i x e. back (suc i) x e))

module _ {D : Type 0} (state : D → DiskState) (d : Deed) (s : Side) (n : Node D) (h : IsHalved state d s n) (back : AllAreBack state n) (root : register.IsKept state IsCatalog ShowsCatalog n.root) (is : IsNode state n) where
  -- but for bytes, whether the disks tell their content or not
  pub bare_again : blanked (world_of n) ≡ blanked (model.opened (world_at s d))
  bare_again =
      let build : List Volume → _ → Up = λ vs rs. record (world_of n) { volumes = vs; relations = rs } in
      ap (λ (vs : List Volume). build vs (world_of n).relations) (placed_rest state n.root.held.volumes n.seats back.volumes)
      ∙ ap (build (map zeroed_volume (map opened (world_of n).volumes))) (catalog_kept n.root.held n.seats n.lengths is.as_many).relations
      ∙ h.bare_now

  module _ (told : AllDisksTold state n) where
    abbrev images : ℕ → Image
    images k = seen_by state (slice_get (devices n) k)

    told_at : (k : ℕ) (x : D) → slice_get (devices n) k ≡ Some x → IsTrue (state x).told
    told_at zero x e = let same : n.root.disk ≡ x = cc in subst (λ (y : D). IsTrue (state y).told) same told.0
    told_at (suc i) x e = let m = mapped_at device n.seats i x e in subst (λ (y : D). IsTrue (state y).told) m.2 (told.1 i m.0 m.1)

    left : Left state (devices n) images
    left = λ k y f. subst (λ (o : Option D). (state y).may_leave (seen_by state o)) (sym f) ((state y).seen_may_stay (told_at k y f))

    of_root : (c : Image) → (state n.root.disk).may_leave c → slot_of c ≡ n.root.selected
    of_root c may = elim (root.left c may) [
      | inl now ↦ now.slot
      | inr next ↦ absurd (subst (λ (o : Option Catalog). register.SelectsAfter ShowsCatalog n.root.selected o c) (root.decided back.root) next)
    ]

    of_seat : (i : ℕ) (x : Seated D) → slice_get n.seats i ≡ Some x → slot_of (images (suc i)) ≡ x.volume.selected
    of_seat i x e =
        let seen : images (suc i) ≡ (state (device x)).seen = ap (seen_by state) (mapped_to device n.seats i x e) in
        ap slot_of seen ∙ (shown_up state x.volume (is.seated i x e).kept (back.volumes i x e).up (state (device x)).seen ((state (device x)).seen_may_stay (told.1 i x e))).state

    -- which slot the seat selects
    by_side : (u : Side) (k slot : ℕ) → k < length (devices n) → FoundAt state u slot n k → slot_of (images k) ≡ (elim u [ Before ↦ slot | After ↦ 1 - slot ])
    unfolding FoundAt
    by_side Before zero slot lt f = of_root (state n.root.disk).seen ((state n.root.disk).seen_may_stay told.0) ∙ f told.0
    by_side After zero slot lt f = of_root (state n.root.disk).seen ((state n.root.disk).seen_may_stay told.0) ∙ f.1 told.0
    by_side Before (suc i) slot lt f =
        let x = some_at n.seats i (let l = length-map n.seats device in omega (arith, lt, l)) in
        of_seat i x.0 x.1 ∙ f x.0 x.1 (told.1 i x.0 x.1)
    by_side After (suc i) slot lt f =
        let x = some_at n.seats i (let l = length-map n.seats device in omega (arith, lt, l)) in
        of_seat i x.0 x.1 ∙ (f x.0 x.1).1 (told.1 i x.0 x.1)

    shown_by : (u : Side) → slot_of (images h.seat) ≡ (elim u [ Before ↦ h.slot | After ↦ 1 - h.slot ]) → Shown (length (devices n)) (part (world_at u d)) images
    shown_by Before e = (h.shown images left).0 e
    shown_by After e = (h.shown images left).1 e

    shown : Shown (length (devices n)) (part (world_at s d)) images
    shown = shown_by s (by_side s h.seat h.slot h.is_seat h.found)

    of_place : (i : ℕ) (v : Volume) (x : Seated D) → slice_get (world_at s d).volumes i ≡ Some v → slice_get n.seats i ≡ Some x → placed (place_of v) x.volume ≡ opened v
    unfolding part
    of_place i v x e f =
        let lt : suc i < length (devices n) = let a = slice_get_within n.seats i x f in let b = length-map n.seats device in omega (arith, a, b) in
        let seen : images (suc i) ≡ (state (device x)).seen = ap (seen_by state) (mapped_to device n.seats i x f) in
        let world = subst (λ (c : Image). Shows (volno i) v c) seen (shown (suc i) lt v e) in
        let seat = is.seated i x f in
        let tells = told.1 i x f in
        let here = (shown_up state x.volume seat.kept (back.volumes i x f).up (state (device x)).seen ((state (device x)).seen_may_stay tells)).shows in
        restart_finds (volno i) v (place_of v) x.volume (state (device x)).seen world (subst (λ k. Shows k x.volume.volume (state (device x)).seen) seat.numbered here) ((back.volumes i x f).opened tells) refl refl

    long : length (world_at s d).volumes ≤ length n.seats
    long = let a = ap length h.held.0.volumes in let b = length-map (world_at s d).volumes place_of in let c = is.as_many in omega (arith, a, b, c)

    -- what the world has beside its volumes
    of_world : (x : Up) (k : Catalog) (seats : List (Seated D)) (lengths : List ℕ) → IsRecordOf lengths k x → all_placed k.volumes seats ≡ map opened x.volumes → world_with k seats lengths ≡ model.opened x
    of_world x k seats lengths c same = rw (c.0.clock, c.0.next_relation, c.0.next_transfer, c.0.policies, sym c.1, c.0.relations, same) refl

    pub world_again : world_of n ≡ model.opened (world_at s d)
    world_again = of_world (world_at s d) n.root.held n.seats n.lengths h.held
        (ap (λ (ps : List Placed). all_placed ps n.seats) h.held.0.volumes ∙ all_reopened (world_at s d).volumes n.seats long of_place)
