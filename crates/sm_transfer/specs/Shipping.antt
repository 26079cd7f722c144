-- One block that is shipped, and a checkpoint.
use Rattle.std.specs.Prelude.{◌≡◌, ◌⊎◌, ℕ, ◌≤◌, ◌<◌, true, false, length, Result, Err, OnOk, OnErr, IfOk, IsTrue}
use Rattle.sm_disk.specs.Image.{Image}
use Rattle.sm_disk.specs.Disk.{DiskState, GoesOn, Steps, IsQuiet, IsSynced, IsCounted}
use Rattle.sm_defs.specs.Image.{stands}
use Rattle.sm_defs.specs.Progress.{landed_prefix}
use Rattle.sm_defs.specs.Volume.{Volume, tags_of}
use Rattle.volume_store.specs.Held.{block_at}
use Rattle.sm_volume.specs.Mounted.{Mounted, on_disk, fallen}
use Rattle.sm_volume.specs.Shown.{Selects, KeepsBlocks}
use Rattle.sm_volume.specs.Assigned.{HasBlock}
use Rattle.sm_transfer.specs.declared.fault.StepFault.{StepFault}
use Rattle.sm_transfer.specs.declared.fault.StepFault.TheVariants.{DiskFault}
use Rattle.sm_transfer.specs.Sending.{Sending, from_of, to_of, with_landed, checked}

-- the index has not landed; its block is one of the source, and goes to a free number
pub record IsShippable (t : Sending) (index : ℕ) (source destination : Volume) : Type 0 where
  pub is_index : index < length t.plan.pairs
  pub fresh : stands index t.landed ≡ false
  pub from_one : 1 ≤ from_of t.plan index
  pub used : stands (from_of t.plan index) (tags_of source) ≡ true
  pub to_one : 1 ≤ to_of t.plan index
  pub within : to_of t.plan index ≤ destination.physical
  pub free : stands (to_of t.plan index) (tags_of destination) ≡ false

-- the source's disk failed, and the destination was not called
pub record SourceFailed {D : Type 0} (state : D → DiskState) (result : Result (Unit {0}) StepFault) (s s' d d' : Mounted D) : Type 0 where
  pub tells : result ≡ Err (DiskFault s.number)
  pub fallen : s' ≡ fallen s s'.disk
  pub counted : IsCounted (state s.disk) (state s'.disk)
  pub untouched : d' ≡ d

-- the destination's disk failed, after the source was read
pub record DestinationFailed {D : Type 0} (state : D → DiskState) (result : Result (Unit {0}) StepFault) (s s' d d' : Mounted D) : Type 0 where
  pub tells : result ≡ Err (DiskFault d.number)
  pub read : s' ≡ on_disk s s'.disk
  pub fallen : d' ≡ fallen d d'.disk
  pub counted : IsCounted (state d.disk) (state d'.disk)

-- A block of the source at a number of its own goes to a number of the destination. Only the block there changes, at any
-- moment, and every image selects the destination as it was; where both disks tell their content, the block then has the
-- source's bytes. A failure falls the one volume whose disk failed.
pub record Ships {D : Type 0} (state : D → DiskState) (from to : ℕ) (result : Result (Unit {0}) StepFault) (s s' d d' : Mounted D) : Type 0 where
  pub ok : OnOk result ((s' ≡ on_disk s s'.disk) × (d' ≡ on_disk d d'.disk))
  pub block : OnOk result (IsTrue (state s.disk).told → IsTrue (state d.disk).told → HasBlock s.volume (record { tag = from; bytes = block_at (state d'.disk).seen to }))
  pub failed : OnErr result (SourceFailed state result s s' d d' ⊎ DestinationFailed state result s s' d d')
  pub quiet : IsQuiet (state s.disk) (state s'.disk)
  pub time : Steps (state s.disk) (state s'.disk)
  pub blocks : KeepsBlocks (λ k. k ≡ to) (state d.disk) (state d'.disk)
  pub any_moment : GoesOn (state d.disk) (state d'.disk) (Selects d.selected d.number d.volume)

-- and its index has landed, where nothing failed
pub record ShipsAt {D : Type 0} (state : D → DiskState) (t : Sending) (index : ℕ) (result : Result (Unit {0}) StepFault) (u : Sending) (s s' d d' : Mounted D) : Type 0 where
  pub ships : Ships state (from_of t.plan index) (to_of t.plan index) result s s' d d'
  pub landed : OnOk result (u ≡ with_landed t index)
  pub unchanged : OnErr result (u ≡ t)

-- the disk failed, and the volume fell
pub record SyncFailed {D A : Type 0} (state : D → DiskState) (result : Result A StepFault) (d d' : Mounted D) : Type 0 where
  pub tells : result ≡ Err (DiskFault d.number)
  pub fallen : d' ≡ fallen d d'.disk
  pub counted : IsCounted (state d.disk) (state d'.disk)

-- A sync: each image of now is what is read, and nothing is read but what was before.
pub record Lands {D : Type 0} (state : D → DiskState) (result : Result (Unit {0}) StepFault) (d d' : Mounted D) : Type 0 where
  pub ok : OnOk result ((d' ≡ on_disk d d'.disk) × IsSynced (state d'.disk))
  pub failed : OnErr result (SyncFailed state result d d')
  pub seen : (state d'.disk).seen ≡ (state d.disk).seen
  pub images : (c : Image) → (state d'.disk).may_leave c → (state d.disk).may_leave c
  pub time : Steps (state d.disk) (state d'.disk)

-- and the checkpoint is what landed without a gap, where nothing failed
pub record Checks {D : Type 0} (state : D → DiskState) (result : Result ℕ StepFault) (t u : Sending) (d d' : Mounted D) : Type 0 where
  pub ok : IfOk result (λ n. (n ≡ landed_prefix t.landed) × (u ≡ checked t) × (d' ≡ on_disk d d'.disk) × IsSynced (state d'.disk))
  pub failed : OnErr result (SyncFailed state result d d' × (u ≡ t))
  pub seen : (state d'.disk).seen ≡ (state d.disk).seen
  pub images : (c : Image) → (state d'.disk).may_leave c → (state d.disk).may_leave c
  pub time : Steps (state d.disk) (state d'.disk)
