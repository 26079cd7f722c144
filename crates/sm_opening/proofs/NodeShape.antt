-- The world of a node that was opened has the shape that opening asks for, whether its disks tell their content or not.
use Rattle.std.proofs.Common.{◌≡◌, ℕ, suc, List, [], ◌∷◌, length, map, Some, slice_get, refl, sym, ap, subst, ◌∙◌, arith}
use Rattle.std.proofs.lemmas.Simd.{map-map}
use Rattle.sm_defs.specs.Image.{Image, tag_of, tags}
use Rattle.sm_defs.specs.Volume.{Volume, Snapshot}
use Rattle.sm_defs.specs.World.{Up}
use Rattle.sm_base.specs.declared.numbers.VolNo.{VolNo}
use Rattle.sm_disk.specs.Disk.{DiskState}
use Rattle.sm_root.specs.declared.root.Root.{Root}
use Rattle.sm_catroot.specs.declared.placed.Placed.{Placed}
use Rattle.sm_catroot.specs.Catalog.{Catalog}
use Rattle.volume_store.specs.Opened.{FoundMaps}
use Rattle.sm_model.specs.Crossed.{Crossed}
use Rattle.sm_volume.specs.Mounted.{opened}
use Rattle.sm_volume.specs.Seen.{kept_snapshot}
use Rattle.sm_volume.specs.Seen as seen
use Rattle.sm_shape.specs.Blank.{blank_block, blank_image}
use Rattle.sm_shape.specs.Blanked.{zeroed, zeroed_snapshot, zeroed_volume, blanked}
use Rattle.sm_node.specs.Seats.{Seated}
use Rattle.sm_node.specs.Moves.{at_place}
use Rattle.sm_node.specs.Nodes as nodes
use Rattle.sm_node.specs.Nodes.{Node, placed, all_placed, world_with}
use Rattle.sm_opening.specs.OnDisk.{Disks, IsShaped}
use Rattle.sm_opening.specs.Looked.{disks_of}
use Rattle.sm_opening.specs.Finding.{ReadRecords, root_of}
use Rattle.sm_opening.specs.Bare.{bare_snapshot, bare_volume, bare_volumes}
use Rattle.sm_opening.specs.Whole.{world_on}
use Rattle.sm_opening.specs.Opening.{Opens}
use Rattle.sm_opening.proofs.BareLemmas.{volumes_bare}

-- ---- a volume is, but for its bytes, what its record says

image_kept : (image : Image) → zeroed image ≡ blank_image (tags image)
image_kept image = sym (map-map blank_block tag_of image)

snapshots_kept : (ss : List Snapshot) → map zeroed_snapshot ss ≡ map bare_snapshot (map kept_snapshot ss)
snapshots_kept [] = refl
snapshots_kept (s ∷ ss) =
    ap (λ (i : Image). let t : Snapshot = record s { image = i } in t ∷ map zeroed_snapshot ss) (image_kept s.image)
    ∙ ap (λ (ts : List Snapshot). bare_snapshot (kept_snapshot s) ∷ ts) (snapshots_kept ss)

volume_kept : (number : VolNo) (p : Placed) (v : Volume) → zeroed_volume (at_place p (opened v)) ≡ bare_volume p (seen.root_of number v)
volume_kept number p v =
    let whole : Volume = zeroed_volume (at_place p (opened v)) in
    ap (λ (i : Image). let u : Volume = record whole { active = i; stable = i } in u) (image_kept v.stable)
    ∙ ap (λ (ss : List Snapshot). let u : Volume = record (bare_volume p (seen.root_of number v)) { snapshots = ss } in u) (snapshots_kept v.snapshots)

seats_bare : {D : Type 0} (ps : List Placed) (seats : List (Seated D)) (fs : List FoundMaps) → length seats ≡ length ps → length fs ≡ length ps
    → ((i : ℕ) (p : Placed) (f : FoundMaps) (s : Seated D) → slice_get ps i ≡ Some p → slice_get fs i ≡ Some f → slice_get seats i ≡ Some s → zeroed_volume (placed p s.volume) ≡ bare_volume p f.maps.root)
    → map zeroed_volume (all_placed ps seats) ≡ bare_volumes ps (map root_of fs)
unfolding all_placed
seats_bare [] [] [] a b each = refl
seats_bare [] [] (f ∷ fs) a b each = absurd (cc)
seats_bare [] (s ∷ seats) fs a b each = absurd (cc)
seats_bare (p ∷ ps) [] fs a b each = absurd (cc)
seats_bare (p ∷ ps) (s ∷ seats) [] a b each = absurd (cc)
seats_bare (p ∷ ps) (s ∷ seats) (f ∷ fs) a b each =
    ap (λ (v : Volume). v ∷ map zeroed_volume (all_placed ps seats)) (each 0 p f s refl refl refl)
    ∙ ap (λ (vs : List Volume). bare_volume p f.maps.root ∷ vs) (seats_bare ps seats fs (omega (arith, a)) (omega (arith, b)) (λ i. each (suc i)))

-- ---- the node

module _ {D : Type 0} (state : D → DiskState) (olds : List D) (n : Node D) (o : Opens state olds n) where
  abbrev d : Disks
  d = disks_of state o.disks

  abbrev r : ReadRecords
  r = o.records

  each : (i : ℕ) (p : Placed) (f : FoundMaps) (s : Seated D) → slice_get r.catalog.value.volumes i ≡ Some p → slice_get r.founds i ≡ Some f → slice_get n.seats i ≡ Some s → zeroed_volume (placed p s.volume) ≡ bare_volume p f.maps.root
  each i p f s at found seat =
      let starts = (o.made.seats i p f s at found seat).starts in
      ap (λ (v : Volume). zeroed_volume (at_place p v)) starts.opened
      ∙ volume_kept s.volume.number p s.volume.volume
      ∙ ap (bare_volume p) starts.root

  held : n.root.held ≡ r.catalog.value
  held = ap (λ x. x.held) o.made.root

  volumes : map zeroed_volume (all_placed r.catalog.value.volumes n.seats) ≡ bare_volumes r.catalog.value.volumes (map root_of r.founds)
  volumes = seats_bare r.catalog.value.volumes n.seats r.founds (o.made.as_many ∙ o.ready.read.volumes.as_many) o.ready.read.volumes.as_many each

  abbrev with_volumes : List Volume → Up
  with_volumes vs = record (world_on d r) { volumes = vs }

  is_bare : blanked (nodes.world_of n) ≡ blanked (world_on d r)
  is_bare =
      ap (λ (k : Catalog). blanked (world_with k n.seats n.lengths)) held
      ∙ ap (λ (l : List ℕ). blanked (world_with r.catalog.value n.seats l)) (o.made.lengths ∙ o.ready.sizes)
      ∙ ap with_volumes (volumes ∙ sym (volumes_bare d r.catalog.value.volumes (map root_of r.founds)))

  pub node_shaped : Crossed (blanked (nodes.world_of n)) × IsShaped (blanked (nodes.world_of n))
  node_shaped = subst (λ (w : Up). Crossed w × IsShaped w) (sym is_bare) (o.ready.sound d (sym o.ready.sizes))
