-- What is replied where disks do not tell their content: all but a block's bytes and digests. An answer that has neither is
-- replied exactly.
use Rattle.std.specs.Prelude.{◌≡◌, ℕ, List, Result, Ok, Err, Box}
use Rattle.std.specs.Global.{Global}
use Rattle.sm_base.specs.declared.numbers.Block.{Block as StoredBlock}
use Rattle.sm_model.specs.declared.reply.Line.{Line}
use Rattle.sm_model.specs.declared.reply.Line.TheVariants as lines
use Rattle.sm_model.specs.declared.reply.Reply.{Reply}
use Rattle.sm_model.specs.declared.reply.Reply.TheVariants as replies
use Rattle.sm_model.specs.Answers.{Answer, Told, told, bytes}

-- the same but for the digest of a line
abbrev pub LineButDigest : Line → Reply → Type 0
LineButDigest (lines.Active number d) reply = (e : List ℕ) × (reply ≡ replies.Line (lines.Active number e))
LineButDigest (lines.Snapshot number name ident label time made d) reply = (e : List ℕ) × (reply ≡ replies.Line (lines.Snapshot number name ident label time made e))
LineButDigest line reply = reply ≡ replies.Line line

abbrev pub ReplyButDigest : Reply → Reply → Type 0
ReplyButDigest (replies.Line line) reply = LineButDigest line reply
ReplyButDigest r reply = reply ≡ r

-- what a reply tells, but for a block's bytes and for digests
abbrev pub TellsButBytes : Told → Reply → Type 0
TellsButBytes (told r) reply = ReplyButDigest r reply
TellsButBytes (bytes bs) reply = (block : Box StoredBlock Global) × (reply ≡ replies.Bytes block)

-- or the refusal
abbrev pub IsRepliedButBytes : Answer → Reply → Type 0
IsRepliedButBytes (Ok reached) reply = TellsButBytes reached.reply reply
IsRepliedButBytes (Err refusal) reply = reply ≡ replies.Refused refusal
