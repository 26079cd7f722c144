-- What a commit does to the value and to its disk.
use Rattle.std.specs.Prelude.{◌≡◌, ◌⊎◌, ◌-◌, false, Some, Result, OnOk, OnErr}
use Rattle.sm_base.specs.declared.faults.Failed.{Failed}
use Rattle.sm_disk.specs.Image.{Image}
use Rattle.sm_disk.specs.Disk.{DiskState, GoesOn, IsCounted}
use Rattle.sm_disk.specs.Spared.{Spares}
use Rattle.sm_slots.specs.Stored.{Stored}
use Rattle.sm_slots.specs.Slots.{BehindSlots}
use Rattle.sm_register.specs.Registered.{Registered, SelectsValue}

module _ {D R : Type 0} (state : D → DiskState) (shows : R → Stored → Type 0) where
  -- each image shows the value before or the one after
  abbrev pub BeforeOrAfter : Registered D R → R → Image → Type 0
  BeforeOrAfter old next c = SelectsValue shows old.selected old.held c ⊎ SelectsValue shows (1 - old.selected) next c

  -- One commit: on Ok the value is the next one. After a fault it is one of the two, which only a restart tells.
  pub record Commits (old : Registered D R) (next : R) (result : Result (Unit {0}) Failed) (new : Registered D R) : Type 0 where
    pub ok : OnOk result (new ≡ record old { disk = new.disk; held = next; selected = 1 - old.selected })
    pub fault : OnErr result (new ≡ record old { disk = new.disk; after = Some next; up = false })
    pub counted : OnErr result (IsCounted (state old.disk) (state new.disk))
    pub any_moment : GoesOn (state old.disk) (state new.disk) (BeforeOrAfter old next)
    pub spared : Spares BehindSlots (state old.disk) (state new.disk)
