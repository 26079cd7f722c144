-- What a call that commits does to the volume and to its disk.
use Rattle.std.specs.Prelude.{◌≡◌, ◌⊎◌, ◌-◌, false, Some, Result, Err, OnOk}
use Rattle.sm_defs.specs.Volume.{Volume}
use Rattle.sm_disk.specs.Image.{Image}
use Rattle.sm_disk.specs.Disk.{DiskState, GoesOn, IsCounted}
use Rattle.volume_store.specs.declared.faults.VolumeFault.{VolumeFault}
use Rattle.volume_store.specs.declared.faults.VolumeFault.TheVariants.{DiskFault}
use Rattle.sm_volume.specs.Mounted.{Mounted}
use Rattle.sm_volume.specs.Shown.{Selects, KeepsBlocks, NoBlock}

-- Each image since the call began shows the volume before or the one after; which of its two states the disk selects tells which.
abbrev pub BeforeOrAfter : {D : Type 0} → Mounted D → Volume → Image → Type 0
BeforeOrAfter old next c = Selects old.selected old.number old.volume c ⊎ Selects (1 - old.selected) old.number next c

-- One commit: on Ok the volume is the next one. After a fault of the disk it is one of the two, which only a restart
-- tells; after any other answer it is the same as before, and the disk was not called. No block is changed.
pub record Commits {D : Type 0} (state : D → DiskState) (old : Mounted D) (next : Volume) (result : Result (Unit {0}) VolumeFault) (new : Mounted D) : Type 0 where
  pub ok : OnOk result (new ≡ record old { disk = new.disk; volume = next; selected = 1 - old.selected })
  pub fault : result ≡ Err DiskFault → new ≡ record old { disk = new.disk; after = Some next; up = false }
  pub counted : result ≡ Err DiskFault → IsCounted (state old.disk) (state new.disk)
  pub refused : (fault : VolumeFault) → result ≡ Err fault → (fault ≡ DiskFault → ⊥) → new ≡ old
  pub any_moment : GoesOn (state old.disk) (state new.disk) (BeforeOrAfter old next)
  pub blocks : KeepsBlocks NoBlock (state old.disk) (state new.disk)
