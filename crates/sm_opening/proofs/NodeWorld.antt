-- The world of a node that was opened is the one that its disks spell.
use Rattle.std.proofs.Common.{◌≡◌, ℕ, zero, suc, List, [], ◌∷◌, length, map, Some, slice_get, refl, sym, ap, subst, ◌∙◌, arith, IsTrue}
use Rattle.sm_defs.specs.Volume.{Volume}
use Rattle.sm_defs.specs.World.{Up}
use Rattle.sm_disk.specs.Image.{Image}
use Rattle.sm_disk.specs.Disk.{DiskState}
use Rattle.sm_root.specs.declared.root.Root.{Root}
use Rattle.sm_catroot.specs.declared.placed.Placed.{Placed}
use Rattle.sm_catroot.specs.Catalog.{Catalog}
use Rattle.volume_store.specs.Opened.{FoundMaps, IsRootOn}
use Rattle.sm_volume.specs.Seen.{volume_of}
use Rattle.sm_node.specs.Seats.{Seated, device}
use Rattle.sm_node.specs.Nodes as nodes
use Rattle.sm_node.specs.Nodes.{Node, placed, all_placed, world_with}
use Rattle.sm_opening.specs.OnDisk.{Disks, read_volume, read_volumes, world_of, Spells}
use Rattle.sm_opening.specs.Looked.{disks_of, seen_of, size_of, AllTold, EachMoves, IsKeptOn}
use Rattle.sm_opening.specs.Finding.{ReadRecords, root_of}
use Rattle.sm_opening.specs.Seating.{IsSeatOf}
use Rattle.sm_opening.specs.Whole.{world_on}
use Rattle.sm_opening.specs.Opening.{Opens}
use Rattle.sm_opening.proofs.LookLemmas.{told_then}
use Rattle.sm_opening.proofs.DisksSame.{disks_same}
use Rattle.sm_opening.proofs.RecordsOnce.{one_root}
use Rattle.std.proofs.lemmas.Option.{same_Some}

all_read : {D : Type 0} (d : Disks) (ps : List Placed) (seats : List (Seated D)) (fs : List FoundMaps) → length seats ≡ length ps → length fs ≡ length ps
    → ((i : ℕ) (p : Placed) (f : FoundMaps) (s : Seated D) → slice_get ps i ≡ Some p → slice_get fs i ≡ Some f → slice_get seats i ≡ Some s → read_volume d p f.maps.root ≡ placed p s.volume)
    → read_volumes d ps (map root_of fs) ≡ all_placed ps seats
unfolding all_placed
all_read d [] [] [] a b each = refl
all_read d [] [] (f ∷ fs) a b each = absurd (cc)
all_read d [] (s ∷ seats) fs a b each = absurd (cc)
all_read d (p ∷ ps) [] fs a b each = absurd (cc)
all_read d (p ∷ ps) (s ∷ seats) [] a b each = absurd (cc)
all_read d (p ∷ ps) (s ∷ seats) (f ∷ fs) a b each =
    ap (λ (v : Volume). v ∷ read_volumes d ps (map root_of fs)) (each 0 p f s refl refl refl)
    ∙ ap (λ (vs : List Volume). placed p s.volume ∷ vs) (all_read d ps seats fs (omega (arith, a)) (omega (arith, b)) (λ i. each (suc i)))

module _ {D : Type 0} (state : D → DiskState) (olds : List D) (n : Node D) (o : Opens state olds n) (told : AllTold state olds) where
  abbrev d : Disks
  d = disks_of state olds

  abbrev r : ReadRecords
  r = o.records

  same_d : disks_of state o.disks ≡ d
  same_d = disks_same state IsKeptOn (λ s e kept. kept.goes.size) (λ s e kept. kept.seen) olds o.disks o.moved

  now_told : AllTold state o.disks
  now_told = told_then state IsKeptOn (λ s e kept. kept.goes.told) olds o.disks o.moved told

  each : (i : ℕ) (p : Placed) (f : FoundMaps) (s : Seated D) → slice_get r.catalog.value.volumes i ≡ Some p → slice_get r.founds i ≡ Some f → slice_get n.seats i ≡ Some s → read_volume d p f.maps.root ≡ placed p s.volume
  each i p f s at found seat =
      let here = o.made.seats i p f s at found seat in
      let c : Image = (state (device s)).seen in
      let tells : IsTrue (state (device s)).told = now_told p.disk.0 (device s) here.device in
      let image : d.images p.disk.0 ≡ c = ap (λ (x : Disks). x.images p.disk.0) (sym same_d) ∙ ap (seen_of state) here.device in
      let shows = (here.starts.selects tells).shows in
      let on : IsRootOn c f.maps.root = (let (x, is, h) = o.ready.read.volumes.each i p f at found in subst (λ (y : D). IsRootOn (state y).seen f.maps.root) (same_Some x (device s) (sym is ∙ here.device)) (h.0.root (now_told p.disk.0 x is))) in
      let same : shows.root ≡ f.maps.root = one_root c shows.root f.maps.root shows.is_root on in
      let whole = subst (λ (x : Root). volume_of s.volume.volume.path s.volume.volume.disk c (record { root = x; active = x.stable }) ≡ s.volume.volume) same (shows.same ∙ sym here.starts.opened) in
      ap (λ (y : Image). volume_of p.path p.disk.0 y (record { root = f.maps.root; active = f.maps.root.stable })) image
      ∙ ap (λ (v : Volume). record v { path = p.path; disk = p.disk.0 }) whole

  held : n.root.held ≡ r.catalog.value
  held = ap (λ x. x.held) o.made.root

  lengths : n.lengths ≡ d.sizes
  lengths = o.made.lengths ∙ o.ready.sizes ∙ ap (λ (x : Disks). x.sizes) same_d

  seats_many : length n.seats ≡ length r.catalog.value.volumes
  seats_many = o.made.as_many ∙ o.ready.read.volumes.as_many

  abbrev with_volumes : List Volume → Up
  with_volumes vs = record (world_on d r) { volumes = vs }

  is_world : nodes.world_of n ≡ world_on d r
  is_world =
      ap (λ (k : Catalog). world_with k n.seats n.lengths) held
      ∙ ap (λ (l : List ℕ). world_with r.catalog.value n.seats l) lengths
      ∙ ap with_volumes (sym (all_read d r.catalog.value.volumes n.seats r.founds seats_many o.ready.read.volumes.as_many each))

  pub node_spelled : Spells d (nodes.world_of n)
  node_spelled = subst (Spells d) (sym is_world) (o.ready.spelled told)
