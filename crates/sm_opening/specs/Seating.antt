-- Each disk of a node is taken to its place: disk 0 to the catalogue, each volume's to the volume, and the others beside them.
use Rattle.std.specs.Prelude.{◌≡◌, ◌≢◌, ℕ, ◌<◌, true, List, length, Option, None, Some, IsTrue, slice_get}
use Rattle.sm_defs.specs.Words.{Among}
use Rattle.sm_disk.specs.Disk.{DiskState, IsSynced}
use Rattle.sm_register.specs.Opened.{FoundValue}
use Rattle.sm_catroot.specs.declared.placed.Placed.{Placed}
use Rattle.sm_catroot.specs.Catalog.{Catalog}
use Rattle.sm_model.specs.Answers.{volno}
use Rattle.volume_store.specs.Opened.{FoundMaps}
use Rattle.sm_volume.specs.Mounted.{opened}
use Rattle.sm_volume.specs.Seen as seen
use Rattle.sm_volume.specs.Shown.{Selects}
use Rattle.sm_node.specs.Seats.{Seated, device, AreAtSeats}
use Rattle.sm_node.specs.Nodes.{Node, IsUp}
use Rattle.sm_opening.specs.Finding.{IsVolumeIn}

module _ {D : Type 0} (state : D → DiskState) where
  -- the volume that was found on the disk of this number
  pub record StartsFrom (number : ℕ) (f : FoundMaps) (s : Seated D) : Type 0 where
    pub disk : s.disk ≡ number
    pub volume : s.volume ≡ record s.volume { number = f.maps.root.number; selected = f.number; after = None; up = true }
    pub opened : s.volume.volume ≡ opened s.volume.volume
    pub root : seen.root_of s.volume.number s.volume.volume ≡ f.maps.root
    pub selects : IsTrue (state (device s)).told → Selects s.volume.selected s.volume.number s.volume.volume (state (device s)).seen

  -- the same, where the disk was one of those at hand
  pub record IsSeatFrom (olds : List (Option D)) (number : ℕ) (f : FoundMaps) (s : Seated D) : Type 0 where
    pub device : slice_get olds number ≡ Some (Some (device s))
    pub starts : StartsFrom number f s

  -- ---- on the way

  -- a disk at hand: the volume of this number was found on it, and all of it is on the medium
  pub record IsReady (ds : List (Option D)) (place : ℕ) (number : ℕ) (f : FoundMaps) : Type 0 where
    pub disk : D
    pub there : slice_get ds number ≡ Some (Some disk)
    pub found : IsVolumeIn (state disk) (volno place) f
    pub synced : IsSynced (state disk)

  abbrev pub AreReady : List Placed → List FoundMaps → List (Option D) → Type 0
  AreReady ps fs ds = (k : ℕ) (p : Placed) (f : FoundMaps) → slice_get ps k ≡ Some p → slice_get fs k ≡ Some f → IsReady ds k p.disk.0 f

  -- so many volumes have their disks, which are no longer at hand
  pub record AreSeated (ps : List Placed) (fs : List FoundMaps) (count : ℕ) (olds news : List (Option D)) (seats : List (Seated D)) : Type 0 where
    pub as_long : length news ≡ length olds
    pub as_many : length seats ≡ count
    pub each : (k : ℕ) (p : Placed) (f : FoundMaps) (s : Seated D) → slice_get ps k ≡ Some p → slice_get fs k ≡ Some f → slice_get seats k ≡ Some s → IsSeatFrom olds p.disk.0 f s
    pub kept : AreAtSeats state seats
    pub taken : (k : ℕ) (p : Placed) → k < count → slice_get ps k ≡ Some p → slice_get news p.disk.0 ≡ Some None
    pub others : (n : ℕ) (o : Option D) → slice_get olds n ≡ Some o → ((k : ℕ) (p : Placed) → k < count → slice_get ps k ≡ Some p → p.disk.0 ≢ n) → slice_get news n ≡ Some o

  -- ---- the node

  -- the seat of the volume at a place of the catalogue
  pub record IsSeatOf (ds : List D) (p : Placed) (f : FoundMaps) (s : Seated D) : Type 0 where
    pub device : slice_get ds p.disk.0 ≡ Some (device s)
    pub starts : StartsFrom p.disk.0 f s

  -- Its catalogue and volumes are what was found, on the disks where it was, and it is up. Each other disk is at hand.
  pub record IsMadeOf (ds : List D) (sizes : List ℕ) (k : FoundValue Catalog) (fs : List FoundMaps) (n : Node D) : Type 0 where
    pub disk : slice_get ds 0 ≡ Some n.root.disk
    pub root : n.root ≡ record { disk = n.root.disk; selected = k.number; held = k.value; after = None; up = true }
    pub as_many : length n.seats ≡ length fs
    pub seats : (i : ℕ) (p : Placed) (f : FoundMaps) (s : Seated D) → slice_get k.value.volumes i ≡ Some p → slice_get fs i ≡ Some f → slice_get n.seats i ≡ Some s → IsSeatOf ds p f s
    pub spares : (m : ℕ) (d : D) → slice_get ds m ≡ Some d → m ≢ 0 → ((p : Placed) → Among k.value.volumes p → p.disk.0 ≢ m) → slice_get n.spares m ≡ Some (Some d)
    pub lengths : n.lengths ≡ sizes
    pub up : IsUp n
