-- What a volume is, and what the images of its disk show of it.
use Rattle.std.specs.Prelude.{◌≡◌, ◌⊎◌, ℕ, ◌+◌, ◌*◌, ◌-◌, ◌<◌, ◌≤◌, ◌==◌, if◌then◌else◌, List, Bool, true, false, Option, Some, None}
use Rattle.sm_base.specs.declared.limits.TheConstants.{BLOCKS_START}
use Rattle.sm_base.specs.declared.numbers.Side.{Side}
use Rattle.sm_base.specs.declared.numbers.Side.TheVariants.{Before, After}
use Rattle.sm_defs.specs.Image.{hole}
use Rattle.sm_disk.specs.Image.{Image, part}
use Rattle.sm_disk.specs.Disk.{DiskState}
use Rattle.sm_root.specs.declared.root.Root.{Root}
use Rattle.sm_root.specs.Condition.{IsRoot, maps_of}
use Rattle.sm_root.specs.Spelling.{spelling}
use Rattle.sm_slots.specs.Stored.{Record}
use Rattle.sm_slots.specs.Slots.{Selects}
use Rattle.volume_store.specs.Maps.{Maps, uses}

-- where physical block n lies, n from 1
abbrev pub block_start : ℕ → ℕ
block_start n = BLOCKS_START + 4096 * (n - 1)

-- how many bytes a disk needs for so many physical blocks
abbrev pub need : ℕ → ℕ
need physical = BLOCKS_START + 4096 * physical

-- the bytes of physical block n
unfoldable pub block_at : Image → ℕ → List ℕ
block_at c n = part c (block_start n) 4096

-- A volume with its disk. While a commit's outcome is not known, `after` has what it was to make of the volume.
pub record Held (D : Type 0) : Type 0 where
  pub disk : D
  -- the number of the record that is selected
  pub number : ℕ
  pub maps : Maps
  pub after : Option Maps
  pub up : Bool

-- Image c shows this root, in the record of this number, and in the blocks that it uses it has what d has there.
pub record Shows (number : ℕ) (root : Root) (d c : Image) : Type 0 where
  pub good : IsRoot root
  pub selects : Selects c number (Record (spelling root))
  pub blocks : (n : ℕ) → 1 ≤ n → uses (maps_of root) n ≡ true → block_at c n ≡ block_at d n

abbrev pub ShowsAfter : ℕ → Option Maps → Image → Image → Type 0
ShowsAfter number None d c = ⊥
ShowsAfter number (Some maps) d c = Shows (1 - number) maps.root d c

-- The image shows the root before, or the one after of a commit whose outcome is not known.
abbrev pub ShowsEither : ℕ → Maps → Option Maps → Image → Image → Type 0
ShowsEither number maps after d c = Shows number maps.root d c ⊎ ShowsAfter number after d c

-- the other volume has the same sizes and the same number
abbrev pub IsAsLarge : Option Maps → Root → Type 0
IsAsLarge None root = Unit {0}
IsAsLarge (Some maps) root = (maps.root.logical ≡ root.logical) × (maps.root.physical ≡ root.physical) × (maps.root.number ≡ root.number)

-- Each image of the disk shows the volume, or while a commit's outcome is not known one of the two.
pub record IsHeld {D : Type 0} (state : D → DiskState) (v : Held D) : Type 0 where
  pub room : need v.maps.root.physical ≤ (state v.disk).size
  pub one_of_two : v.number < 2
  pub as_large : IsAsLarge v.after v.maps.root
  pub decided : v.up ≡ true → v.after ≡ None
  pub images : (c : Image) → (state v.disk).may_leave c → ShowsEither v.number v.maps v.after (state v.disk).seen c

-- every volume before a call that may leave it changed in nothing but its disk
abbrev pub on_disk : {D : Type 0} → Held D → D → Held D
on_disk v disk = record v { disk = disk }

-- a call failed on the disk: only a restart goes on
abbrev pub fallen : {D : Type 0} → Held D → D → Held D
fallen v disk = record v { disk = disk; up = false }

-- the number is one of the disk's blocks, and the stable map and the snapshots don't use it
pub record IsOpenBlock (maps : Maps) (n : ℕ) : Type 0 where
  pub from_one : 1 ≤ n
  pub within : n ≤ maps.root.physical
  pub unused : uses (maps_of maps.root) n ≡ false

-- the bytes at a number: a hole reads as zeros
abbrev pub bytes_at : Image → ℕ → List ℕ
bytes_at c n = if n == 0 then hole.bytes else block_at c n

-- The side that a restart answers, and the volume that it leaves.
abbrev pub taken_side : Side → Maps → Option Maps → Option Maps
taken_side Before maps after = Some maps
taken_side After maps after = after

-- which record is that side's
abbrev pub number_of : Side → ℕ → ℕ
number_of Before number = number
number_of After number = 1 - number

-- what the image shows of that side
abbrev pub ShowsSide : Side → ℕ → Maps → Option Maps → Image → Image → Type 0
ShowsSide Before number maps after d c = Shows number maps.root d c
ShowsSide After number maps after d c = ShowsAfter number after d c

-- the stable image is the active one
abbrev pub restarted : Maps → Maps
restarted m = record m { active = m.root.stable }
