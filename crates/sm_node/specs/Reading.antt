-- Calls that read a volume and change nothing of it.
use Rattle.std.specs.Prelude.{◌≡◌, Result, Err, OnOk}
use Rattle.sm_disk.specs.Disk.{DiskState, GoesOn, IsQuiet, IsCounted}
use Rattle.volume_store.specs.declared.faults.VolumeFault.{VolumeFault}
use Rattle.volume_store.specs.declared.faults.VolumeFault.TheVariants.{DiskFault}
use Rattle.sm_volume.specs.Mounted.{Mounted, on_disk, fallen}

-- One call or several: neither what the disk reads nor what a restart may leave of it is changed. After a fault of the disk
-- only a restart goes on; after any other answer but Ok the disk was not called.
pub record Reads {D A : Type 0} (state : D → DiskState) (result : Result A VolumeFault) (old new : Mounted D) : Type 0 where
  pub ok : OnOk result (new ≡ on_disk old new.disk)
  pub fault : result ≡ Err DiskFault → new ≡ fallen old new.disk
  pub counted : result ≡ Err DiskFault → IsCounted (state old.disk) (state new.disk)
  pub unchanged : (fault : VolumeFault) → result ≡ Err fault → (fault ≡ DiskFault → ⊥) → new ≡ old
  pub quiet : IsQuiet (state old.disk) (state new.disk)
  pub any_moment : GoesOn (state old.disk) (state new.disk) (state old.disk).may_leave
