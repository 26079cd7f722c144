-- What holds of every volume, whenever it is asked.
use Rattle.std.specs.Prelude.{◌≡◌, ◌<◌, ◌≤◌, true, map, None}
use Rattle.sm_defs.specs.Image.{Block, hole, tags}
use Rattle.sm_defs.specs.Volume.{images_of}
use Rattle.sm_disk.specs.Image.{Image}
use Rattle.sm_disk.specs.Disk.{DiskState}
use Rattle.sm_root.specs.Condition.{IsRoot}
use Rattle.volume_store.specs.Held.{block_at, need}
use Rattle.volume_store.specs.Maps.{AreMapsOf}
use Rattle.sm_volume.specs.Assigned.{HasBlock}
use Rattle.sm_volume.specs.Mounted.{Mounted}
use Rattle.sm_volume.specs.Seen.{root_of}
use Rattle.sm_volume.specs.Shown.{SelectsEither}

-- Its images are as long as the volume, with numbers of blocks that the disk has room for, each at one place in all of
-- them; the disk reads as its blocks there, and a block without a number is the hole; and each image of the disk selects the volume, or the one of a commit whose outcome is not known.
pub record IsKept {D : Type 0} (state : D → DiskState) (v : Mounted D) : Type 0 where
  pub images : AreMapsOf v.volume.logical v.volume.physical (map tags (images_of v.volume))
  pub blocks : (b : Block) → HasBlock v.volume b → 1 ≤ b.tag → block_at (state v.disk).seen b.tag ≡ b.bytes
  pub holes : (b : Block) → HasBlock v.volume b → b.tag ≡ 0 → b ≡ hole
  pub good : IsRoot (root_of v.number v.volume)
  pub room : need v.volume.physical ≤ (state v.disk).size
  pub one_of_two : v.selected < 2
  pub decided : v.up ≡ true → v.after ≡ None
  pub left : (c : Image) → (state v.disk).may_leave c → SelectsEither v c
