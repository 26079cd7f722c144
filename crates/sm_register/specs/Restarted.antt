-- What a restart leaves of a value. One that fails leaves it as it was.
use Rattle.std.specs.Prelude.{◌≡◌, true, false, Some, None, IsTrue, Result, IfOk, OnErr}
use Rattle.sm_base.specs.declared.numbers.Side.{Side}
use Rattle.sm_base.specs.declared.faults.Failed.{Failed}
use Rattle.sm_disk.specs.Disk.{DiskState, GoesOn, IsSynced, IsCounted}
use Rattle.sm_register.specs.Registered.{Registered}
use Rattle.sm_register.specs.Turned.{of_side, Turns}

-- it is that side's value
abbrev pub IsRestarted : {D R : Type 0} → (D → DiskState) → Registered D R → Side → Registered D R → Type 0
IsRestarted state old side new =
    (of_side side old.held old.after ≡ Some new.held) × (new.after ≡ None) × (new.up ≡ true)
    × Turns side (IsTrue (state old.disk).told) old.selected old.after new.selected new.after

pub record Restarts {D R : Type 0} (state : D → DiskState) (old : Registered D R) (result : Result Side Failed) (new : Registered D R) : Type 0 where
  pub ok : IfOk result (λ side. IsRestarted state old side new)
  pub fault : OnErr result (new ≡ record old { disk = new.disk; up = false })
  pub counted : OnErr result (IsCounted (state old.disk) (state new.disk))
  -- the disk reads as one of its images, and no image comes at any moment
  pub image : IsTrue (state old.disk).told → (state old.disk).may_leave (state new.disk).seen
  pub synced : IsSynced (state new.disk)
  pub goes : GoesOn (state old.disk) (state new.disk) (state old.disk).may_leave
