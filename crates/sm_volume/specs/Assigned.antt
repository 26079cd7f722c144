-- What each call makes of a volume: plain assignments.
use Rattle.std.specs.Prelude.{◌≡◌, ℕ, ◌<◌, ◌≤◌, not, cond, Bool, List, [], ◌∷◌, ◌++◌, Some, find, slice_index, length}
use Rattle.std.specs.List.{filter}
use Rattle.sm_base.specs.declared.numbers.Ident.{Ident}
use Rattle.sm_defs.specs.Image.{Block, Image, tags}
use Rattle.sm_defs.specs.Volume.{Volume, Snapshot, images_of}
use Rattle.sm_defs.specs.Operations.{taken_over, reverted}
use Rattle.sm_defs.specs.Operations as operations
use Rattle.sm_defs.specs.Words.{Among, has_ident, same_ident, up_to}
use Rattle.sm_root.specs.declared.head.Head.{Head}

-- one of the volume's images has the block
abbrev pub HasBlock : Volume → Block → Type 0
HasBlock v b = (image : Image) × Among (images_of v) image × Among image b

-- what is on a snapshot's label, with an image
abbrev pub snapshot_of : Head → Image → Snapshot
snapshot_of h image = record { ident = h.ident; name = h.name; label = h.label; time = h.time; maker = h.made; image = image }

-- a consistency point with a snapshot of it behind the others
abbrev pub snapped : Volume → Head → Volume
snapped v h = operations.snapped v (snapshot_of h v.active)

-- the snapshots that are not among these
abbrev pub staying : List Ident → List Snapshot → List Snapshot
staying drops snapshots = filter (λ s. not (has_ident drops s.ident)) snapshots

-- the snapshot's image becomes the stable and the active one
abbrev pub adopted : Volume → Snapshot → ℕ → List Ident → Volume
adopted v s family drops = taken_over v s.image family (staying drops (v.snapshots ++ s ∷ []))

-- Which maps can be adopted: each number in range, none twice, and none that a snapshot which stays has at another place.
pub record CanAdopt (v : Volume) (map : List ℕ) (drops : List Ident) : Type 0 where
  pub long : length map ≡ v.logical
  pub within : (i : ℕ) → slice_index map i ≤ v.physical
  pub once : (i j : ℕ) → slice_index map i ≡ slice_index map j → 0 < slice_index map i → i ≡ j
  pub one_place : (s : Snapshot) → Among (staying drops v.snapshots) s → (i j : ℕ) → slice_index map i ≡ slice_index (tags s.image) j → 0 < slice_index map i → i ≡ j

-- the image of the snapshot of this identity, with all snapshots or with those up to that one
abbrev pub IsReverted : Volume → Ident → Bool → ℕ → Volume → Type 0
IsReverted v i drop_newer family next =
    (s : Snapshot) × (find (λ t. same_ident t.ident i) v.snapshots ≡ Some s)
    × (next ≡ reverted v s.image family (cond drop_newer (up_to (λ t. same_ident t.ident i) v.snapshots) v.snapshots))
