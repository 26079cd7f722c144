-- Whether the disks of a world have room for it, and whether some disks spell it.
use Rattle.std.specs.Prelude.{◌≡◌, ◌≢◌, ℕ, ◌≤◌, Some, slice_get}
use Rattle.sm_base.specs.declared.limits.TheConstants.{SLOTS_END}
use Rattle.sm_defs.specs.Volume.{Volume, length_needed}
use Rattle.sm_defs.specs.World.{Up}
use Rattle.sm_model.specs.Standing.{EachVolume}
use Rattle.sm_opening.specs.OnDisk.{Disks, AreBytes, Spells}

-- the world's disk of this number has at least so many bytes
pub record HasDisk (w : Up) (disk least : ℕ) : Type 0 where
  pub size : ℕ
  pub is_disk : slice_get w.disks disk ≡ Some size
  pub room : least ≤ size

-- a volume's disk is not that of the catalogue, and long enough for its blocks
pub record HasRoomFor (w : Up) (v : Volume) : Type 0 where
  pub behind : v.disk ≢ 0
  pub disk : HasDisk w v.disk (length_needed v.physical)

-- Disk 0 has room for the catalogue, and each volume's disk for the volume. That no two volumes lie on one disk is a part
-- of the form of a world.
pub record HasRoom (w : Up) : Type 0 where
  pub catalog : HasDisk w 0 SLOTS_END
  pub volumes : EachVolume (HasRoomFor w) w

-- disks of the world's lengths spell it
pub record IsSpelled (w : Up) : Type 0 where
  pub on : Disks
  pub sizes : on.sizes ≡ w.disks
  pub are_bytes : AreBytes on
  pub spells : Spells on w
