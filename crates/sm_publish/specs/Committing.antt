-- What a step that commits makes of the one volume that it changes.
use Rattle.std.specs.Prelude.{◌≡◌, ◌-◌, Bool, true, false, Option, Some, None, Result, Ok, Err, IfOk}
use Rattle.sm_base.specs.declared.numbers.VolNo.{VolNo}
use Rattle.sm_base.specs.declared.refusal.Reason.{Reason}
use Rattle.sm_defs.specs.Volume.{Volume}
use Rattle.sm_disk.specs.Disk.{DiskState, GoesOn, IsCounted}
use Rattle.volume_store.specs.declared.faults.VolumeFault.{VolumeFault}
use Rattle.volume_store.specs.declared.faults.VolumeFault.TheVariants as volume
use Rattle.sm_volume.specs.Mounted.{Mounted}
use Rattle.sm_volume.specs.Shown.{KeepsBlocks, NoBlock}
use Rattle.sm_volume.specs.Commits.{BeforeOrAfter}
use Rattle.sm_transfer.specs.declared.fault.StepFault.{StepFault}
use Rattle.sm_transfer.specs.declared.fault.StepFault.TheVariants.{Stopped, DiskFault, NoMemory}

-- behind the step's commit, or as it was where the step has nothing to commit
abbrev pub committed : {D : Type 0} → Bool → Mounted D → Volume → D → Mounted D
committed true old next disk = record old { disk = disk; volume = next; selected = 1 - old.selected }
committed false old next disk = old

-- The volume's disk failed in the commit. Which of the two volumes it has then only a restart tells.
pub record CommitFailed {D : Type 0} (state : D → DiskState) (commits : Bool) (reason : Option Reason) (next : Volume) (volume : VolNo) (old new : Mounted D) : Type 0 where
  pub due : commits ≡ true
  pub allowed : reason ≡ None
  pub told : volume ≡ old.number
  pub fallen : new ≡ record old { disk = new.disk; after = Some next; up = false }
  pub counted : IsCounted (state old.disk) (state new.disk)

-- A step with at most one commit, which makes the next volume. It is done, with its answer, only where there is no reason,
-- and stopped only for the reason; it may want memory, and then it has changed nothing, as where it is stopped. Each image
-- since it began shows the volume before or the next one. No block is changed.
pub record StepsTo {D A : Type 0} (state : D → DiskState) (commits : Bool) (reason : Option Reason) (answer : A) (next : Volume) (result : Result A StepFault) (old new : Mounted D) : Type 0 where
  pub done : IfOk result (λ a. (reason ≡ None) × (a ≡ answer) × (new ≡ committed commits old next new.disk))
  pub stopped : (r : Reason) → result ≡ Err (Stopped r) → (reason ≡ Some r) × (new ≡ old)
  pub failed : (v : VolNo) → result ≡ Err (DiskFault v) → CommitFailed state commits reason next v old new
  pub memory : result ≡ Err NoMemory → new ≡ old
  pub any_moment : GoesOn (state old.disk) (state new.disk) (BeforeOrAfter old next)
  pub blocks : KeepsBlocks NoBlock (state old.disk) (state new.disk)

-- what a step answers for a commit of this volume that was not refused
abbrev pub answered : {A : Type 0} → VolNo → A → Result (Unit {0}) VolumeFault → Result A StepFault
answered v answer (Ok x) = Ok answer
answered v answer (Err volume.DiskFault) = Err (DiskFault v)
answered v answer (Err fault) = Err NoMemory
