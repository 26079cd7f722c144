-- How one volume of a node moves, and what its call is answered as an event.
use Rattle.std.specs.Prelude.{◌≡◌, ℕ, List, Option, None, Some, Result, Ok, Err, OnOk, IsTrue, slice_get, slice_set}
use Rattle.sm_base.specs.declared.faults.Failed.{Failed}
use Rattle.sm_base.specs.declared.numbers.DiskNo.{DiskNo}
use Rattle.sm_base.specs.declared.refusal.Refusal.{Refusal}
use Rattle.sm_base.specs.declared.refusal.Refusal.TheVariants as refusals
use Rattle.sm_defs.specs.Image.{Block}
use Rattle.sm_defs.specs.Operations.{IsLeastFree, least_free, written}
use Rattle.sm_defs.specs.Volume.{Volume}
use Rattle.sm_defs.specs.World.{Up, with_volume}
use Rattle.sm_disk.specs.Disk.{DiskState, GoesOn, IsCounted}
use Rattle.sm_model.specs.declared.reply.Reply.{Reply}
use Rattle.sm_model.specs.declared.reply.Reply.TheVariants as replies
use Rattle.sm_model.specs.Answers.{Answer, told}
use Rattle.sm_catroot.specs.declared.placed.Placed.{Placed}
use Rattle.volume_store.specs.declared.faults.VolumeFault.{VolumeFault}
use Rattle.volume_store.specs.declared.faults.VolumeFault.TheVariants as faults
use Rattle.volume_store.specs.Held.{block_at}
use Rattle.volume_store.specs.Refusals.{Refuses, RefusesOrFails}
use Rattle.sm_volume.specs.Mounted.{Mounted, fallen}
use Rattle.sm_volume.specs.Shown.{Selects, KeepsBlocks}
use Rattle.sm_volume.specs.Kept.{IsKept}
use Rattle.sm_volume.specs.Commits.{Commits}
use Rattle.sm_volume.specs.Refusals.{write_refusal}
use Rattle.sm_node.specs.declared.fault.NodeFault.{NodeFault}
use Rattle.sm_node.specs.declared.fault.NodeFault.TheVariants.{Down, NoMemory as OutOfMemory}
use Rattle.sm_node.specs.Seats.{Seated, moved}

-- only the volume at a place has moved, in this manner, and it is kept
pub record MovesOne {D : Type 0} (state : D → DiskState) (at : ℕ) (P : Mounted D → Mounted D → Type 0) (olds news : List (Seated D)) : Type 0 where
  pub old : Seated D
  pub new : Mounted D
  pub was : slice_get olds at ≡ Some old
  pub is : news ≡ slice_set olds at (moved old new)
  pub did : P old.volume new
  pub kept : IsKept state new

-- ---- what a call is answered as an event

-- a volume's fault as the refusal of an event
abbrev pub refusal_of : VolumeFault → Option Refusal
refusal_of faults.ReadOnly = Some refusals.ReadOnly
refusal_of faults.BadBlock = Some refusals.BadBlock
refusal_of faults.NoSpace = Some refusals.NoSpace
refusal_of faults.NameTaken = Some refusals.NameTaken
refusal_of faults.SnapFull = Some refusals.SnapFull
refusal_of faults.NoSnapshot = None
refusal_of (faults.DiskSmall need len) = None
refusal_of (faults.BadRoot slot at) = None
refusal_of (faults.OtherNumber found) = None
refusal_of faults.DiskFault = None
refusal_of faults.NoMemory = None

-- Of the disk of this number, which has failed so often. The faults of opening and of a missing snapshot come of no call
-- that an event makes.
unfoldable pub fault_answer : DiskNo → ℕ → VolumeFault → Result Reply NodeFault
fault_answer disk count faults.ReadOnly = Ok (replies.Refused refusals.ReadOnly)
fault_answer disk count faults.BadBlock = Ok (replies.Refused refusals.BadBlock)
fault_answer disk count faults.NoSpace = Ok (replies.Refused refusals.NoSpace)
fault_answer disk count faults.NameTaken = Ok (replies.Refused refusals.NameTaken)
fault_answer disk count faults.SnapFull = Ok (replies.Refused refusals.SnapFull)
fault_answer disk count faults.NoSnapshot = Err OutOfMemory
fault_answer disk count (faults.DiskSmall need len) = Err OutOfMemory
fault_answer disk count (faults.BadRoot slot at) = Err OutOfMemory
fault_answer disk count (faults.OtherNumber found) = Err OutOfMemory
fault_answer disk count faults.DiskFault = Err (Down disk count)
fault_answer disk count faults.NoMemory = Err OutOfMemory

abbrev pub event_answer : Reply → DiskNo → ℕ → Result (Unit {0}) VolumeFault → Result Reply NodeFault
event_answer reply disk count (Ok done) = Ok reply
event_answer reply disk count (Err fault) = fault_answer disk count fault

-- of a commit of the catalogue
abbrev pub commit_answer : Reply → ℕ → Result (Unit {0}) Failed → Result Reply NodeFault
commit_answer reply count (Ok done) = Ok reply
commit_answer reply count (Err failed) = Err (Down (record { 0 = 0 }) count)

-- ---- calls

-- a call that commits, and its answer as an event that has this reply
abbrev pub IsCommitCall : {D : Type 0} → (D → DiskState) → Reply → DiskNo → (Volume → Option VolumeFault) → (Volume → Volume) → Result Reply NodeFault → Mounted D → Mounted D → Type 0
IsCommitCall state reply disk refusal next result m n =
    (r : Result (Unit {0}) VolumeFault) × (result ≡ event_answer reply disk (state n.disk).faults r) × Refuses (refusal m.volume) r × Commits state m (next m.volume) r n

-- a client's write, which commits nothing: only the block of the least free number is changed
pub record Writes {D : Type 0} (state : D → DiskState) (at : ℕ) (content : List ℕ) (r : Result (Unit {0}) VolumeFault) (m n : Mounted D) : Type 0 where
  pub ok : OnOk r ((b : Block) × IsLeastFree m.volume b.tag × (n ≡ record m { disk = n.disk; volume = written m.volume at b }) × (IsTrue (state m.disk).told → b.bytes ≡ content)
      × (IsTrue (state m.disk).told → block_at (state n.disk).seen b.tag ≡ content) × (b.tag ≡ least_free m.volume))
  pub fault : r ≡ Err faults.DiskFault → n ≡ fallen m n.disk
  pub counted : r ≡ Err faults.DiskFault → IsCounted (state m.disk) (state n.disk)
  pub unchanged : (fault : VolumeFault) → r ≡ Err fault → (fault ≡ faults.DiskFault → ⊥) → n ≡ m
  pub free : write_refusal m.volume at ≡ None → IsLeastFree m.volume (least_free m.volume)
  pub blocks : (number : ℕ) → IsLeastFree m.volume number → KeepsBlocks (λ k. k ≡ number) (state m.disk) (state n.disk)
  pub any_moment : GoesOn (state m.disk) (state n.disk) (Selects m.selected m.number m.volume)

abbrev pub IsWriteCall : {D : Type 0} → (D → DiskState) → DiskNo → ℕ → List ℕ → Result Reply NodeFault → Mounted D → Mounted D → Type 0
IsWriteCall state disk at content result m n =
    (r : Result (Unit {0}) VolumeFault) × (result ≡ event_answer replies.Done disk (state n.disk).faults r) × RefusesOrFails (write_refusal m.volume at) r × Writes state at content r m n

-- ---- calls and the definitions

-- the volume at its place in the world
abbrev pub at_place : Placed → Volume → Volume
at_place p v = record v { path = p.path; disk = p.disk.0 }

-- The answer of the definitions is that of the volume's call: the same refusal, or the reply with the next volume.
pub record Matches (w : Up) (at : ℕ) (p : Placed) (a : Answer) (refusal : Option VolumeFault) (reply : Reply) (next : Volume) : Type 0 where
  pub refuses : (f : VolumeFault) → refusal ≡ Some f → (g : Refusal) × (a ≡ Err g) × (refusal_of f ≡ Some g)
  pub does : refusal ≡ None → a ≡ Ok (record { reply = told reply; world = with_volume w at (at_place p next) })
