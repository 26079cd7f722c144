-- What the images of a disk show of a volume, and which blocks a run of calls leaves alone.
use Rattle.std.specs.Prelude.{◌≡◌, ◌⊎◌, ◌-◌, ℕ, ◌≤◌, List, Option, Some, None}
use Rattle.sm_base.specs.declared.numbers.VolNo.{VolNo}
use Rattle.sm_base.specs.declared.numbers.Side.{Side}
use Rattle.sm_base.specs.declared.numbers.Side.TheVariants.{Before, After}
use Rattle.sm_defs.specs.Image.{Block}
use Rattle.sm_defs.specs.Volume.{Volume}
use Rattle.sm_defs.specs.Words.{Among}
use Rattle.sm_disk.specs.Image.{Image}
use Rattle.sm_disk.specs.Disk.{DiskState, GoesOn}
use Rattle.sm_root.specs.declared.root.Root.{Root}
use Rattle.sm_slots.specs.Stored.{slot_of}
use Rattle.volume_store.specs.Held.{block_at}
use Rattle.volume_store.specs.Opened.{IsRootOn}
use Rattle.sm_volume.specs.Seen.{volume_of}
use Rattle.sm_volume.specs.Mounted.{Mounted, opened}

-- The image shows the volume: what its record says with the blocks that lie there is the volume as a restart leaves it.
pub record Shows (number : VolNo) (v : Volume) (c : Image) : Type 0 where
  pub root : Root
  pub is_root : IsRootOn c root
  pub numbered : root.number ≡ number
  pub same : volume_of v.path v.disk c (record { root = root; active = root.stable }) ≡ opened v

-- the same volume at another path and on a disk of another number
abbrev pub placed : List ℕ → ℕ → Volume → Volume
placed path disk v = record v { path = path; disk = disk }

-- and the state of this number is the selected one
pub record Selects (selected : ℕ) (number : VolNo) (v : Volume) (c : Image) : Type 0 where
  pub state : slot_of c ≡ selected
  pub shows : Shows number v c

abbrev pub SelectsAfter : ℕ → VolNo → Option Volume → Image → Type 0
SelectsAfter selected number None c = ⊥
SelectsAfter selected number (Some v) c = Selects (1 - selected) number v c

-- what a disk shows of a volume says nothing of the path and the disk's number that a node gives it
pub record ShownAnywhere : Type 0 where
  pub shows : (number : VolNo) (v : Volume) (path : List ℕ) (disk : ℕ) (c : Image) → Shows number v c → Shows number (placed path disk v) c
  pub selects : (selected : ℕ) (number : VolNo) (v : Volume) (path : List ℕ) (disk : ℕ) (c : Image) → Selects selected number v c → Selects selected number (placed path disk v) c

-- the volume as it is selected, or the one of a commit whose outcome is not known
abbrev pub SelectsEither : {D : Type 0} → Mounted D → Image → Type 0
SelectsEither v c = Selects v.selected v.number v.volume c ⊎ SelectsAfter v.selected v.number v.after c

-- the image selects the volume of this side
abbrev pub SelectsSide : {D : Type 0} → Side → Mounted D → Image → Type 0
SelectsSide Before v c = Selects v.selected v.number v.volume c
SelectsSide After v c = SelectsAfter v.selected v.number v.after c

-- these blocks have in c what they have in d, but for those that change
abbrev pub SameBlocks : (ℕ → Type 0) → Image → Image → Type 0
SameBlocks changes c d = (n : ℕ) → 1 ≤ n → (changes n → ⊥) → block_at d n ≡ block_at c n

abbrev pub IsLikeIn : (ℕ → Type 0) → DiskState → Image → Type 0
IsLikeIn changes s c = (d : Image) × s.may_leave d × SameBlocks changes d c

-- Calls that change at most these blocks: every other reads as before, and each image since the start has there what an
-- image of the start has.
pub record KeepsBlocks (changes : ℕ → Type 0) (old new : DiskState) : Type 0 where
  pub seen : SameBlocks changes old.seen new.seen
  pub images : (c : Image) → new.may_leave c → IsLikeIn changes old c
  pub any_moment : GoesOn old new (IsLikeIn changes old)

-- no block
abbrev pub NoBlock : ℕ → Type 0
NoBlock n = ⊥

-- blocks that landed have their bytes
abbrev pub HoldsAll : List Block → Image → Type 0
HoldsAll blocks c = (b : Block) → Among blocks b → block_at c b.tag ≡ b.bytes
