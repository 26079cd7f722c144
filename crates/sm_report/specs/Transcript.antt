-- What is printed of an entry, and the transcript of a history.
use Rattle.std.specs.Prelude.{ℕ, Bool, true, false, List, [], ◌∷◌, codes, decimal, ◌==◌, if◌then◌else◌, flat_map, Option, Some, None}
use Rattle.sm_base.specs.declared.refusal.Refusal.{Refusal}
use Rattle.sm_base.specs.declared.refusal.Refusal.TheVariants as refusals
use Rattle.sm_model.specs.declared.event.Event as the_event
use Rattle.sm_model.specs.declared.event.Event.TheVariants as events
use Rattle.sm_model.specs.declared.reply.Reply as the_reply
use Rattle.sm_model.specs.declared.reply.Reply.TheVariants as replies
use Rattle.sm_model.specs.declared.reply.Entry.{Entry}
use Rattle.sm_report.specs.Texts.{◌then◌}
use Rattle.sm_report.specs.RefusalText.{refusal_text}
use Rattle.sm_report.specs.Text.{reply_text}

-- the node is down: its disk
unfoldable pub down_disk : the_reply.Reply → Option ℕ
down_disk (replies.Refused (refusals.Down disk)) = Some disk.0
down_disk (replies.Refused (refusals.DiskFault disk faults)) = Some disk.0
down_disk reply = None

abbrev pub down_or : List ℕ → Option ℕ → List ℕ
down_or text None = text
down_or text (Some disk) = codes "report down disk=" then decimal disk

-- a report's event that meets a node that is down ends the report
abbrev pub report_text : the_reply.Reply → List ℕ
report_text reply = down_or (reply_text reply) (down_disk reply)

-- a disk failed, now or before
unfoldable pub is_of_a_disk : Refusal → Bool
is_of_a_disk (refusals.Down disk) = true
is_of_a_disk (refusals.DiskFault disk faults) = true
is_of_a_disk refusal = false

-- of steps that are not shown, what ends them
unfoldable pub ends_settling : the_reply.Reply → Option (List ℕ)
ends_settling replies.Idle = Some (codes "settled")
ends_settling (replies.Refused refusal) = if is_of_a_disk refusal then Some (refusal_text refusal) else None
ends_settling reply = None

-- what is printed, if anything
unfoldable pub shown_text : the_event.Event → the_reply.Reply → Option (List ℕ)
shown_text (events.Work false) reply = ends_settling reply
shown_text events.Head reply = Some (report_text reply)
shown_text (events.VolumeLine volume) reply = Some (report_text reply)
shown_text (events.Digest volume place) reply = Some (report_text reply)
shown_text (events.RelationLine relation) reply = Some (report_text reply)
shown_text event reply = Some (reply_text reply)

-- an answer to a line of the script begins with the line's number
abbrev pub line_of_text : ℕ → Option (List ℕ) → List ℕ
line_of_text line None = []
line_of_text line (Some text) = if line == 0 then text then (10 ∷ []) else decimal line then codes ": " then text then (10 ∷ [])

abbrev pub entry_text : Entry → List ℕ
entry_text e = line_of_text e.line (shown_text e.event e.reply)

-- what the transcript has of an entry: its text, and nothing where a worker made it
abbrev pub printed_text : Entry → List ℕ
printed_text e = if e.actor == 0 then entry_text e else []

-- the texts of the script's actor, in order
abbrev pub transcript : List Entry → List ℕ
transcript entries = flat_map printed_text entries
