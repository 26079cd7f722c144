-- What a call that commits does to the volume and to its disk.
use Rattle.std.specs.Prelude.{◌≡◌, ◌⊎◌, ◌-◌, false, Some, Result, Err, OnOk}
use Rattle.sm_disk.specs.Image.{Image}
use Rattle.sm_disk.specs.Disk.{DiskState, GoesOn, IsCounted}
use Rattle.sm_disk.specs.Spared.{Spares}
use Rattle.sm_slots.specs.Slots.{BehindSlots}
use Rattle.volume_store.specs.declared.faults.VolumeFault.{VolumeFault}
use Rattle.volume_store.specs.declared.faults.VolumeFault.TheVariants.{DiskFault}
use Rattle.volume_store.specs.Held.{Held, Shows}
use Rattle.volume_store.specs.Maps.{Maps}

-- Each image since the call began shows the volume before or the one after, whose blocks are as they read at its start.
abbrev pub BeforeOrAfter : {D : Type 0} → (D → DiskState) → Held D → Maps → Image → Type 0
BeforeOrAfter state old next c =
    Shows old.number old.maps.root (state old.disk).seen c ⊎ Shows (1 - old.number) next.root (state old.disk).seen c

-- One commit: on Ok the volume is the next one. After a fault of the disk it is one of the two, which only a restart
-- tells; after any other answer it is the same as before, and the disk was not called. No block is changed.
pub record Commits {D : Type 0} (state : D → DiskState) (old : Held D) (next : Maps) (result : Result (Unit {0}) VolumeFault) (new : Held D) : Type 0 where
  pub ok : OnOk result (new ≡ record old { disk = new.disk; maps = next; number = 1 - old.number })
  pub fault : result ≡ Err DiskFault → new ≡ record old { disk = new.disk; after = Some next; up = false }
  pub counted : result ≡ Err DiskFault → IsCounted (state old.disk) (state new.disk)
  pub refused : (fault : VolumeFault) → result ≡ Err fault → (fault ≡ DiskFault → ⊥) → new ≡ old
  pub any_moment : GoesOn (state old.disk) (state new.disk) (BeforeOrAfter state old next)
  pub spared : Spares BehindSlots (state old.disk) (state new.disk)
