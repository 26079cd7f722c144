-- Which blocks of its disks an event may change.
use Rattle.std.specs.Prelude.{◌≡◌, ℕ, true, false, length, slice_get, Some}
use Rattle.sm_disk.specs.Disk.{DiskState}
use Rattle.sm_defs.specs.Image.{stands}
use Rattle.sm_defs.specs.Volume.{Volume, tags_of}
use Rattle.sm_defs.specs.World.{Up}
use Rattle.sm_volume.specs.Shown.{KeepsBlocks, NoBlock}
use Rattle.sm_node.specs.Seats.{Seated, device}
use Rattle.sm_node.specs.Nodes.{Node}

-- no image of the volume at this place uses the block of this number before, and one does after
pub record IsNewIn (before after : Up) (place number : ℕ) : Type 0 where
  pub old : Volume
  pub new : Volume
  pub was : slice_get before.volumes place ≡ Some old
  pub is : slice_get after.volumes place ≡ Some new
  pub free : stands number (tags_of old) ≡ false
  pub used : stands number (tags_of new) ≡ true

-- On the disk of each volume only these blocks are changed, by its place and their numbers, at any moment; the disk of a volume
-- that is made keeps its blocks.
pub record ChangesOnly {D : Type 0} (state : D → DiskState) (changes : ℕ → ℕ → Type 0) (old new : Node D) : Type 0 where
  pub seats : (i : ℕ) (s t : Seated D) → slice_get old.seats i ≡ Some s → slice_get new.seats i ≡ Some t → KeepsBlocks (changes i) (state (device s)) (state (device t))
  pub joined : (t : Seated D) → slice_get new.seats (length old.seats) ≡ Some t → (x : D) × (slice_get old.spares t.disk ≡ Some (Some x)) × KeepsBlocks NoBlock (state x) (state (device t))

-- only blocks that the world after uses and the one before does not
abbrev pub ChangesNewBlocks : {D : Type 0} → (D → DiskState) → Up → Up → Node D → Node D → Type 0
ChangesNewBlocks state before after old new = ChangesOnly state (IsNewIn before after) old new
