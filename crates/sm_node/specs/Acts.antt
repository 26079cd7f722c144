-- What an event does to a node that is up.
use Rattle.std.specs.Prelude.{◌≡◌, ◌⊎◌, ℕ, zero, suc, List, [], ◌∷◌, ◌++◌, map, Option, Some, slice_get, Result, Ok, Err, IfOk}
use Rattle.std.proofs.Common.{inl, inr}
use Rattle.sm_base.specs.declared.numbers.DiskNo.{DiskNo}
use Rattle.sm_defs.specs.Volume.{Volume}
use Rattle.sm_defs.specs.World.{Up}
use Rattle.sm_disk.specs.Disk.{DiskState, IsCounted}
use Rattle.sm_seats.specs.Seats.{GoesWhole}
use Rattle.sm_model.specs.declared.reply.Reply.{Reply}
use Rattle.sm_model.specs.declared.reply.Reply.TheVariants as replies
use Rattle.sm_model.specs.Answers.{Answer, Tells}
use Rattle.sm_shape.specs.Blanked.{blanked}
use Rattle.sm_node.specs.declared.fault.NodeFault.{NodeFault}
use Rattle.sm_node.specs.declared.fault.NodeFault.TheVariants.{Down, NoMemory as OutOfMemory}
use Rattle.sm_node.specs.Seats.{disk_number}
use Rattle.sm_node.specs.Nodes.{Node, world_of, IsUp}
use Rattle.sm_node.specs.ButBytes.{IsRepliedButBytes}
use Rattle.sm_node.specs.Pending.{world_ahead, NothingPending, IsLong, IsLeftOpen}
use Rattle.sm_node.specs.Parts.{devices, part, AllTold}
use Rattle.sm_node.specs.Blocks.{ChangesNewBlocks}

-- ---- of the definitions' answer

-- the reply that the answer tells, or its refusal
abbrev pub IsReplied : Answer → Reply → Type 0
IsReplied (Ok reached) reply = Tells reached.reply reply
IsReplied (Err refusal) reply = reply ≡ replies.Refused refusal

-- the world that the answer reaches, or the old one
abbrev pub reached_of : Up → Answer → Up
reached_of old (Ok reached) = reached.world
reached_of old (Err refusal) = old

-- the reply that the answer tells with its world, or its refusal with the old one
abbrev pub IsAnswered : Up → Answer → Reply → Up → Type 0
IsAnswered old a reply new = IsReplied a reply × (new ≡ reached_of old a)

-- it is no refusal
abbrev pub IsAllowed : Answer → Type 0
IsAllowed (Ok reached) = Unit {0}
IsAllowed (Err refusal) = ⊥

-- ---- of a failure

-- the number of the disk at a seat
abbrev pub IsDiskOf : Up → ℕ → DiskNo → Type 0
IsDiskOf w zero disk = disk.0 ≡ 0
IsDiskOf w (suc i) disk = (v : Volume) → slice_get w.volumes i ≡ Some v → disk.0 ≡ v.disk

-- the disk of a seat failed in this event, and its count of faults is this
pub record HasFailed {D : Type 0} (state : D → DiskState) (w : Up) (disk : DiskNo) (count : ℕ) (olds news : List D) : Type 0 where
  pub seat : ℕ
  pub named : IsDiskOf w seat disk
  pub old : D
  pub new : D
  pub was : slice_get olds seat ≡ Some old
  pub is : slice_get news seat ≡ Some new
  pub counted : IsCounted (state old) (state new)
  pub counts : count ≡ (state new).faults

-- Or a disk failed that is at hand before and after.
pub record SpareHasFailed {D : Type 0} (state : D → DiskState) (number count : ℕ) (olds news : List (Option D)) : Type 0 where
  pub old : D
  pub new : D
  pub was : slice_get olds number ≡ Some (Some old)
  pub is : slice_get news number ≡ Some (Some new)
  pub counted : IsCounted (state old) (state new)
  pub counts : count ≡ (state new).faults

-- the disk of this number failed in this event, at a seat or at hand
abbrev pub DiskHasFailed : {D : Type 0} → (D → DiskState) → Up → DiskNo → ℕ → Node D → Node D → Type 0
DiskHasFailed state w disk count old new = HasFailed state w disk count (devices old) (devices new) ⊎ SpareHasFailed state disk.0 count old.spares new.spares

-- The node shows the world before the event, and beside it the one after, or none where the event was to commit nothing
-- or failed before its commit.
pub record IsFallen {D : Type 0} (a : Answer) (old new : Node D) : Type 0 where
  pub before : world_of new ≡ world_of old
  pub after : (world_ahead new ≡ reached_of (world_of old) a) ⊎ NothingPending new

-- at most the commit of the disk that failed is left open; a disk at hand has none
abbrev pub IsLeftOpenBy : {D : Type 0} → (state : D → DiskState) → (w : Up) → (disk : DiskNo) → (count : ℕ) → (old new : Node D) → DiskHasFailed state w disk count old new → Type 0
IsLeftOpenBy state w disk count old new (inl at_seat) = IsLeftOpen at_seat.seat new
IsLeftOpenBy state w disk count old new (inr at_hand) = NothingPending new × IsLong new

-- the event is no refusal, and the disk of this number failed in it
pub record Fails {D : Type 0} (state : D → DiskState) (a : Answer) (disk : DiskNo) (count : ℕ) (old new : Node D) : Type 0 where
  pub allowed : IsAllowed a
  pub failed : DiskHasFailed state (world_of old) disk count old new
  pub fallen : IsFallen a old new
  pub left_open : IsLeftOpenBy state (world_of old) disk count old new failed

-- ---- the crash clause

-- From whatever moment since the event began the images of its disks are, they show the world before or the one after.
-- Either each disk stays at its seat, or one that was at hand lies at a seat behind the others now.
pub data GoesThrough {D : Type 0} (state : D → DiskState) (before after : Up) (old new : Node D) : Type 0 where
  stays : (commits : ℕ) → GoesWhole state commits (part before) (part after) (devices old) (devices new) → GoesThrough state before after old new
  joins : (number : ℕ) (blank : D) → slice_get old.spares number ≡ Some (Some blank) → map disk_number new.seats ≡ map disk_number old.seats ++ number ∷ []
      → GoesWhole state 0 (part before) (part after) (devices old ++ blank ∷ []) (devices new) → GoesThrough state before after old new

-- ---- the event

-- Ok gives the answer's reply and world; Down says that a disk failed in an event that is no refusal; after NoMemory all is
-- as before. Whatever comes, no block is changed but those that only the world after uses, and every image since the event began
-- shows the world before or after. What disks tell is a premise
-- of bytes alone: but for those of a read, of digests and of the world's blocks, what is replied and reached needs none.
pub record Acts {D : Type 0} (state : D → DiskState) (a : Answer) (old : Node D) (result : Result Reply NodeFault) (new : Node D) : Type 0 where
  pub up : IfOk result (λ reply. IsUp new)
  pub answered : IfOk result (λ reply. AllTold state old.seats → IsAnswered (world_of old) a reply (world_of new))
  pub without_bytes : IfOk result (λ reply. IsRepliedButBytes a reply × (blanked (world_of new) ≡ blanked (reached_of (world_of old) a)))
  pub failed : (disk : DiskNo) (count : ℕ) → result ≡ Err (Down disk count) → Fails state a disk count old new
  pub unchanged : result ≡ Err OutOfMemory → new ≡ old
  pub blocks : ChangesNewBlocks state (world_of old) (reached_of (world_of old) a) old new
  pub whole : GoesThrough state (world_of old) (reached_of (world_of old) a) old new
