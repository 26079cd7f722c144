-- A volume of the definitions beside its disk.
use Rattle.std.specs.Prelude.{ℕ, [], map, false, Bool, Option, Some, option_map}
use Rattle.sm_base.specs.declared.numbers.VolNo.{VolNo}
use Rattle.sm_base.specs.declared.numbers.Side.{Side}
use Rattle.sm_base.specs.declared.numbers.Side.TheVariants.{Before, After}
use Rattle.sm_defs.specs.Image.{Block, Image}
use Rattle.sm_defs.specs.Volume.{Volume, Snapshot}
use Rattle.sm_defs.specs.Operations as operations
use Rattle.sm_disk.specs.Disk.{DiskState}
use Rattle.volume_store.specs.Held.{Held}
use Rattle.sm_volume.specs.Seen.{volume_of}

-- The volume knows neither its path nor its disk's number. The disk keeps two states of it, of which one is selected; while
-- the outcome of a commit is not known, `after` is the volume that it was to make.
pub record Mounted (D : Type 0) : Type 0 where
  pub disk : D
  -- its place in the order of creation
  pub number : VolNo
  -- which of the two states is selected, 0 or 1
  pub selected : ℕ
  pub volume : Volume
  pub after : Option Volume
  -- no call has failed on the disk since it was opened or restarted
  pub up : Bool

-- what its maps and the blocks of its disk make
abbrev pub mounted : {D : Type 0} → (D → DiskState) → Held D → Mounted D
mounted state h = record {
  disk = h.disk;
  number = h.maps.root.number;
  selected = h.number;
  volume = volume_of [] 0 (state h.disk).seen h.maps;
  after = option_map (volume_of [] 0 (state h.disk).seen) h.after;
  up = h.up;
}

-- changed in nothing but its disk
abbrev pub on_disk : {D : Type 0} → Mounted D → D → Mounted D
on_disk v disk = record v { disk = disk }

-- a call failed on the disk: only a restart goes on
abbrev pub fallen : {D : Type 0} → Mounted D → D → Mounted D
fallen v disk = record v { disk = disk; up = false }

-- as a restart or an opening leaves it: what was written since the last consistency point is lost
abbrev pub opened : Volume → Volume
opened v = operations.opened v

-- the volume of a side of a restart
abbrev pub of_side : Side → Volume → Option Volume → Option Volume
of_side Before volume after = Some volume
of_side After volume after = after

-- the same without its blocks' bytes, which a disk may not tell
abbrev pub bare_block : Block → Block
bare_block b = record { tag = b.tag; bytes = [] }

abbrev pub bare_image : Image → Image
bare_image image = map bare_block image

abbrev pub bare_snapshot : Snapshot → Snapshot
bare_snapshot s = record s { image = bare_image s.image }

abbrev pub bare : Volume → Volume
bare v = record v { active = bare_image v.active; stable = bare_image v.stable; snapshots = map bare_snapshot v.snapshots }
