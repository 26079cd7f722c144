-- What an event does that reads a volume, and changes nothing of the world.
use Rattle.std.specs.Prelude.{◌≡◌, ℕ, List, Result, Ok, Err, IfOk, OnErr, Option, Some, None, IsTrue, Box, slice_index_or}
use Rattle.std.specs.Global.{Global}
use Rattle.sm_base.specs.declared.numbers.Block.{Block as StoredBlock}
use Rattle.sm_base.specs.declared.numbers.DiskNo.{DiskNo}
use Rattle.sm_base.specs.declared.refusal.Refusal.{Refusal}
use Rattle.sm_defs.specs.Image.{Image, hole}
use Rattle.sm_defs.specs.World.{Up}
use Rattle.sm_disk.specs.Disk.{DiskState}
use Rattle.sm_seats.specs.Seats.{GoesWhole}
use Rattle.sm_model.specs.declared.reply.Line.{Line}
use Rattle.sm_model.specs.declared.reply.Line.TheVariants as lines
use Rattle.sm_model.specs.declared.reply.Reply.{Reply}
use Rattle.sm_model.specs.declared.reply.Reply.TheVariants as replies
use Rattle.sm_model.specs.Answers.{Answer}
use Rattle.sm_base.specs.declared.numbers.VolNo.{VolNo}
use Rattle.sm_defs.specs.Volume.{Volume}
use Rattle.sm_model.specs.OfReport.{digest, digest_line, snapshot_at}
use Rattle.volume_store.specs.declared.faults.VolumeFault.{VolumeFault}
use Rattle.volume_store.specs.declared.faults.VolumeFault.TheVariants.{DiskFault}
use Rattle.volume_store.specs.declared.io.View.{View}
use Rattle.volume_store.specs.declared.io.View.TheVariants.{Active, Of}
use Rattle.sm_volume.specs.Mounted.{Mounted}
use Rattle.sm_volume.specs.Refusals.{read_refusal, image_seen}
use Rattle.sm_node.specs.declared.fault.NodeFault.{NodeFault}
use Rattle.sm_node.specs.declared.fault.NodeFault.TheVariants.{Down, NoMemory as OutOfMemory}
use Rattle.sm_node.specs.Nodes.{Node, world_of, IsUp}
use Rattle.sm_node.specs.Parts.{devices, part, AllTold}
use Rattle.sm_node.specs.Moves.{refusal_of, fault_answer}
use Rattle.sm_node.specs.ButBytes.{LineButDigest, IsRepliedButBytes}
use Rattle.sm_node.specs.Acts.{IsReplied, IsAllowed, reached_of, Fails}
use Rattle.sm_node.specs.Blocks.{ChangesNewBlocks}
use Rattle.sm_node.specs.Reading.{Reads}

-- ---- the event

-- As an event that acts, but it leaves the world; and where disks do not tell their content nothing is said of the bytes
-- and digests that it replies.
pub record Looks {D : Type 0} (state : D → DiskState) (a : Answer) (old : Node D) (result : Result Reply NodeFault) (new : Node D) : Type 0 where
  pub up : IfOk result (λ reply. IsUp new)
  pub same : IfOk result (λ reply. world_of new ≡ world_of old)
  pub answered : IfOk result (λ reply. AllTold state old.seats → IsReplied a reply)
  pub but_bytes : IfOk result (λ reply. IsRepliedButBytes a reply)
  pub failed : (disk : DiskNo) (count : ℕ) → result ≡ Err (Down disk count) → Fails state a disk count old new
  pub unchanged : result ≡ Err OutOfMemory → new ≡ old
  pub blocks : ChangesNewBlocks state (world_of old) (reached_of (world_of old) a) old new
  pub whole : (commits : ℕ) × GoesWhole state commits (part (world_of old)) (part (reached_of (world_of old) a)) (devices old) (devices new)

-- ---- calls

-- what a call's value or fault is answered as an event
abbrev pub answer_with : {A : Type 0} → (A → Reply) → DiskNo → ℕ → Result A VolumeFault → Result Reply NodeFault
answer_with reply disk count (Ok x) = Ok (reply x)
answer_with reply disk count (Err fault) = fault_answer disk count fault

-- the refusal comes exactly where it stands; else the call answers Ok, or its disk fails
abbrev pub RefusesOrFailsWith : {A : Type 0} → Option VolumeFault → Result A VolumeFault → Type 0
RefusesOrFailsWith (Some refusal) result = result ≡ Err refusal
RefusesOrFailsWith None result = OnErr result (result ≡ Err DiskFault)

-- a read of one block, with its answer as an event
pub record IsReadCall {D : Type 0} (state : D → DiskState) (disk : DiskNo) (view : View) (at : ℕ) (result : Result Reply NodeFault) (m n : Mounted D) : Type 0 where
  pub done : Result (Unit {0}) VolumeFault
  pub block : Box StoredBlock Global
  pub is : result ≡ answer_with (λ _. replies.Bytes block) disk (state n.disk).faults done
  pub refused : RefusesOrFailsWith (read_refusal m.volume view at) done
  pub reads : Reads state done m n
  pub read : IfOk done (λ _. IsTrue (state m.disk).told → (image : Image) → image_seen m.volume view ≡ Some image → block.value.0 ≡ (slice_index_or image at hole).bytes)

-- the line with this digest
abbrev pub with_digest : Line → List ℕ → Line
with_digest (lines.Active number d) e = lines.Active number e
with_digest (lines.Snapshot number name ident label time made d) e = lines.Snapshot number name ident label time made e
with_digest line e = line

-- the digest of an image, with its answer as an event
pub record IsDigestCall {D : Type 0} (state : D → DiskState) (disk : DiskNo) (view : View) (line : Line) (result : Result Reply NodeFault) (m n : Mounted D) : Type 0 where
  pub done : Result (List ℕ) VolumeFault
  pub is : result ≡ answer_with (λ d. replies.Line (with_digest line d)) disk (state n.disk).faults done
  pub refused : OnErr done (done ≡ Err DiskFault)
  pub reads : Reads state done m n
  pub digested : IfOk done (λ d. IsTrue (state m.disk).told → (image : Image) → image_seen m.volume view ≡ Some image → d ≡ digest image)

-- ---- calls and the definitions

-- The answer of the definitions is that of the call: the same refusal, or one that leaves the world.
pub record LooksAs (w : Up) (a : Answer) (refusal : Option VolumeFault) : Type 0 where
  pub refuses : (f : VolumeFault) → refusal ≡ Some f → (g : Refusal) × (a ≡ Err g) × (refusal_of f ≡ Some g)
  pub does : refusal ≡ None → IsAllowed a × (reached_of w a ≡ w)

-- The line has all of the definitions' line on the image at this place but the digest, and the view sees that image.
pub record IsImageLine (number : VolNo) (v : Volume) (place : Option ℕ) (view : View) (line : Line) : Type 0 where
  pub image : Image
  pub seen : image_seen v view ≡ Some image
  pub told : digest_line number v place ≡ with_digest line (digest image)
  pub but : (d : List ℕ) → LineButDigest (digest_line number v place) (replies.Line (with_digest line d))

-- how the image at a place of the report is read
abbrev pub view_at_place : Volume → Option ℕ → View
view_at_place v None = Active
view_at_place v (Some k) = Of (snapshot_at v k).ident
