-- What the calls answer.
use Rattle.std.specs.Prelude.{◌≡◌, ◌⊎◌, Bool, cond, List, [], ◌∷◌, Option, Some, None, Result, Ok, Err, OnOk, IsErr, true}
use Rattle.sm_defs.specs.Volume.{has}
use Rattle.volume_store.specs.declared.faults.VolumeFault.{VolumeFault}
use Rattle.volume_store.specs.declared.faults.VolumeFault.TheVariants.{NameTaken, NoMemory as OutOfMemory}
use Rattle.volume_store.specs.Refusals.{Refuses, RefusesOrFails}
use Rattle.sm_volume.specs.Seen.{image_of}
use Rattle.sm_volume.specs.Assigned.{snapshot_of}
use Rattle.sm_volume.specs.Refusals.{cp_refusal, snapshot_refusal, remove_refusal, adopt_refusal, write_refusal, read_refusal, revert_refusal}
use Rattle.laws_volume.specs.declared.call.Call as the_call
use Rattle.laws_volume.specs.declared.call.Call.TheVariants as calls
use Rattle.sm_disk.specs.Disk.{DiskState}
use Rattle.sm_volume.specs.Mounted.{Mounted}
use Rattle.laws_volume.specs.Assigned.{Plain, plain, Assigns, AssignsAll}

-- want of memory may come in the refusal's place
abbrev pub OrNoMemory : Option VolumeFault → Result (Unit {0}) VolumeFault → Type 0
OrNoMemory refusal result = Refuses refusal result ⊎ (result ≡ Err OutOfMemory)

-- Which refusal a call answers: exactly where it stands. A snapshot of an identity that the volume has is refused here.
unfoldable pub Answers : the_call.Call → Plain → Result (Unit {0}) VolumeFault → Type 0
Answers (calls.Write at block) old result = RefusesOrFails (write_refusal old.volume at) result
Answers calls.ConsistencyPoint old result = Refuses (cp_refusal old.volume) result
Answers (calls.Snapshot head) old result = OrNoMemory (cond (has old.volume.snapshots head.ident) (Some NameTaken) (snapshot_refusal old.volume head.ident head.name)) result
Answers (calls.Remove drops) old result = Refuses (remove_refusal old.volume drops.items) result
Answers calls.MakeWritable old result = Refuses None result
Answers (calls.Revert ident drop_newer family) old result = Refuses (revert_refusal old.volume ident) result
Answers (calls.Land number block) old result = RefusesOrFails None result
Answers (calls.Adopt head map family drops) old result = OrNoMemory (adopt_refusal old.volume (snapshot_of head (image_of old.reads map.items)) drops.items) result
Answers calls.Sync old result = RefusesOrFails None result
Answers (calls.Fetch number) old result = RefusesOrFails None result
Answers (calls.Read view at) old result = RefusesOrFails (read_refusal old.volume view at) result
Answers calls.Restart old result = RefusesOrFails None result

-- the first call that is not answered Ok gives the answer
abbrev pub AnswersAll : Bool → List the_call.Call → Plain → Result (Unit {0}) VolumeFault → Type 0
AnswersAll told [] old result = result ≡ Ok tt
AnswersAll told (c ∷ cs) old result = (IsErr result × Answers c old result) ⊎ ((mid : Plain) × Answers c old (Ok tt) × Assigns told c old mid × AnswersAll told cs mid result)

-- A call was made: what it answers, and what it assigns where that is Ok.
pub record IsDone {D : Type 0} (state : D → DiskState) (call : the_call.Call) (old : Mounted D) (result : Result (Unit {0}) VolumeFault) (new : Mounted D) : Type 0 where
  pub answers : Answers call (plain state old) result
  pub assigned : OnOk result (Assigns (state old.disk).told call (plain state old) (plain state new))
  pub up : OnOk result (new.up ≡ true)
  pub told : (state new.disk).told ≡ (state old.disk).told

-- Calls were made one after another, up to the first that is not answered Ok.
pub record AreDone {D : Type 0} (state : D → DiskState) (calls : List the_call.Call) (old : Mounted D) (result : Result (Unit {0}) VolumeFault) (new : Mounted D) : Type 0 where
  pub answers : AnswersAll (state old.disk).told calls (plain state old) result
  pub assigned : OnOk result (AssignsAll (state old.disk).told calls (plain state old) (plain state new))
  pub up : OnOk result (new.up ≡ true)
  pub told : (state new.disk).told ≡ (state old.disk).told
