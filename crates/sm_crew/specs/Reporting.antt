-- What the report of a node is: its events in order, as far as the replies go.
use Rattle.std.specs.Prelude.{◌≡◌, ℕ, List, [], ◌∷◌, ◌++◌, map, length, Option, Some, None, Result, Ok, Err}
use Rattle.std.specs.List.{AllByRecursion}
use Rattle.sm_base.specs.declared.limits.TheConstants.{MOST_ENTRIES}
use Rattle.sm_base.specs.declared.numbers.DiskNo.{DiskNo}
use Rattle.sm_disk.specs.Disk.{DiskState}
use Rattle.sm_defs.specs.World.{Up}
use Rattle.sm_model.specs.declared.event.Event as the_event
use Rattle.sm_model.specs.declared.event.Event.TheVariants as events
use Rattle.sm_model.specs.declared.reply.Entry.{Entry}
use Rattle.sm_model.specs.declared.reply.Line.TheVariants as lines
use Rattle.sm_model.specs.declared.reply.Reply as the_reply
use Rattle.sm_model.specs.declared.reply.Reply.TheVariants as replies
use Rattle.sm_model.specs.Answer.{answer}
use Rattle.sm_model.specs.Answers.{Answer}
use Rattle.sm_model.specs.Asked.{asked_of, asking, report_events}
use Rattle.sm_model.specs.World.{World, up, down, Deed}
use Rattle.sm_shape.specs.Blanked.{blanked}
use Rattle.sm_report.specs.Transcript.{down_disk}
use Rattle.sm_history.specs.declared.fault.ActFault.{ActFault}
use Rattle.sm_history.specs.declared.fault.ActFault.TheVariants.{Unchanged, HistoryFull, NoMemory as OutOfMemory}
use Rattle.sm_node.specs.ButBytes.{IsRepliedButBytes}
use Rattle.sm_core.specs.Kept.{Kept}
use Rattle.sm_crew.specs.Coming.{Comes, RunsOn}
use Rattle.sm_crew.specs.declared.stop.Stop.{Stop}
use Rattle.sm_crew.specs.declared.stop.Stop.TheVariants.{Down, Fault}

-- ---- the events

-- an event of the report, which changes nothing
abbrev pub IsLook : the_event.Event → Type 0
IsLook events.Head = Unit {0}
IsLook (events.VolumeLine volume) = Unit {0}
IsLook (events.Digest volume place) = Unit {0}
IsLook (events.RelationLine relation) = Unit {0}
IsLook _ = ⊥

-- the report of a world; that of one that is down has its first event alone, which is answered so
abbrev pub report_of : World → List the_event.Event
report_of (up w) = report_events w
report_of (down disk d) = events.Head ∷ []

-- ---- their entries

-- the script's actor asked for these events, by no line of a script
abbrev pub AreAsked : List the_event.Event → List Entry → Type 0
AreAsked asked entries = map asked_of entries ≡ map (asking 0) asked

-- the node was up, and is
abbrev pub TellsUp : Entry → Type 0
TellsUp e = down_disk e.reply ≡ None

-- all of the report was done
pub record IsWhole (report : List the_event.Event) (entries : List Entry) : Type 0 where
  pub asked : AreAsked report entries
  pub told : AllByRecursion TellsUp entries

-- The last entry, and no other, tells that the node is down since this disk failed. Nothing of the report was asked behind it.
pub record IsEnded (report : List the_event.Event) (entries : List Entry) (disk : ℕ) : Type 0 where
  pub done : List the_event.Event
  pub left : List the_event.Event
  pub report_is : report ≡ done ++ left
  pub asked : AreAsked done entries
  pub before : List Entry
  pub last : Entry
  pub entries_are : entries ≡ before ++ last ∷ []
  pub told : AllByRecursion TellsUp before
  pub down : down_disk last.reply ≡ Some disk

-- want of memory is told apart from all else, and no event of a report is answered that nothing has changed
abbrev pub IsWhyCut : ActFault → List Entry → Type 0
IsWhyCut HistoryFull history = length history ≡ MOST_ENTRIES
IsWhyCut OutOfMemory history = Unit {0}
IsWhyCut Unchanged history = ⊥

-- the report was cut off in front of a further event
pub record IsCut (report : List the_event.Event) (entries history : List Entry) (fault : ActFault) : Type 0 where
  pub done : List the_event.Event
  pub next : the_event.Event
  pub left : List the_event.Event
  pub report_is : report ≡ done ++ next ∷ left
  pub asked : AreAsked done entries
  pub told : AllByRecursion TellsUp entries
  pub why : IsWhyCut fault history

abbrev pub HasReported : List the_event.Event → List Entry → List Entry → Result (Option DiskNo) ActFault → Type 0
HasReported report entries history (Ok None) = IsWhole report entries
HasReported report entries history (Ok (Some disk)) = IsEnded report entries disk.0
HasReported report entries history (Err fault) = IsCut report entries history fault

-- ---- the world behind them

-- up before and after, and the same but for the bytes of blocks
pub record StaysUp (old new : World) : Type 0 where
  pub first : Up
  pub last : Up
  pub was : old ≡ up first
  pub is : new ≡ up last
  pub without_bytes : blanked last ≡ blanked first

abbrev pub IsDownWith : ℕ → World → Type 0
IsDownWith disk w = (d : Deed) × (w ≡ down disk d)

-- the node is down exactly where its disk is answered
abbrev pub LeavesSo : World → World → Result (Option DiskNo) ActFault → Type 0
LeavesSo old new (Ok None) = StaysUp old new
LeavesSo old new (Ok (Some disk)) = IsDownWith disk.0 new
LeavesSo old new (Err fault) = Unit {0}

-- what a reply counts: the volumes of a node, or the snapshots of a volume
unfoldable pub counted : the_reply.Reply → ℕ
counted (replies.Line (lines.Head volumes relationships policies clock)) = volumes
counted (replies.Line (lines.Volume volume path kind blocks physical used snapshots)) = snapshots
counted reply = 0

-- the world is up, and this is what the event is answered there but for digests
pub record IsSeen (w : World) (e : the_event.Event) (reply : the_reply.Reply) : Type 0 where
  pub world : Up
  pub is : w ≡ up world
  pub answer_is : Answer
  pub says : answer world e ≡ Some answer_is
  pub replied : IsRepliedButBytes answer_is reply

module _ {D : Type 0} (state : D → DiskState) where
  -- these events were done, and the node was up
  pub record Reports (old : Kept D) (done : List the_event.Event) (new : Kept D) : Type 0 where
    pub own : List Entry
    pub comes : Comes state old own new
    pub whole : IsWhole done own
    pub stays : StaysUp old.world new.world

  -- some first of these were done, and then the report went no further
  abbrev pub HasStopped : List the_event.Event → List Entry → Kept D → Stop → Type 0
  HasStopped report own new (Down disk) = IsEnded report own disk.0 × IsDownWith disk.0 new.world
  HasStopped report own new (Fault fault) = IsCut report own new.history fault

  pub record Stops (old : Kept D) (report : List the_event.Event) (stop : Stop) (new : Kept D) : Type 0 where
    pub own : List Entry
    pub comes : Comes state old own new
    pub stopped : HasStopped report own new stop

  -- Behind the old history stand the entries of the report, in order, and no others. Each is one step of the catalogue, which
  -- nothing else has changed.
  pub record RunsReport (old : Kept D) (result : Result (Option DiskNo) ActFault) (new : Kept D) : Type 0 where
    pub entries : List Entry
    pub comes : Comes state old entries new
    pub grown : new.history ≡ old.history ++ entries
    pub sides : new.sides ≡ old.sides
    pub runs : RunsOn state old entries new
    pub reported : HasReported (report_of old.world) entries new.history result
    pub leaves : LeavesSo old.world new.world result
