-- What a restart leaves of a volume.
use Rattle.std.specs.Prelude.{◌≡◌, true, false, Some, None, option_map, IsTrue}
use Rattle.sm_base.specs.declared.numbers.Side.{Side}
use Rattle.sm_defs.specs.Volume.{Volume}
use Rattle.sm_disk.specs.Disk.{DiskState}
use Rattle.volume_store.specs.Held.{number_of}
use Rattle.sm_volume.specs.Mounted.{Mounted, opened, of_side, bare}
use Rattle.sm_volume.specs.Shown.{SelectsSide}

-- It is that side's volume, with its stable image as the active one, and that side's state is the selected one. On a disk
-- that does not tell its content nothing is said of the blocks' bytes and of which state is selected.
abbrev pub IsRestarted : {D : Type 0} → (D → DiskState) → Mounted D → Side → Mounted D → Type 0
IsRestarted state old side new =
    (v : Volume) × (of_side side old.volume old.after ≡ Some v)
    × (new ≡ record new { number = old.number; after = None; up = true })
    × (bare new.volume ≡ bare (opened v))
    × (IsTrue (state old.disk).told → new.volume ≡ opened v)
    × (IsTrue (state old.disk).told → new.selected ≡ number_of side old.selected)

-- The side that the disk selects is not read. That side's volume is as it was, and a later restart finds it.
pub record IsStillDown {D : Type 0} (state : D → DiskState) (old new : Mounted D) : Type 0 where
  pub number : new.number ≡ old.number
  pub selected : new.selected ≡ old.selected
  pub down : new.up ≡ false
  pub volume : bare new.volume ≡ bare old.volume
  pub after : option_map bare new.after ≡ option_map bare old.after
  pub side : IsTrue (state old.disk).told →
      (side : Side) × (v w : Volume) × (of_side side old.volume old.after ≡ Some v) × (of_side side new.volume new.after ≡ Some w)
      × (opened w ≡ opened v) × SelectsSide side old (state new.disk).seen
