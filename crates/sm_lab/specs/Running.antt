-- What a run does: the node is opened, the commands are done, the report is asked for, and the disks come back.
use Rattle.std.specs.Prelude.{◌≡◌, ◌⊎◌, List, [], ◌++◌, Err, ℕ}
use Rattle.sm_base.specs.declared.numbers.DiskNo.{DiskNo}
use Rattle.sm_base.specs.declared.numbers.Side.{Side}
use Rattle.sm_disk.specs.Disk.{DiskState}
use Rattle.sm_grammar.specs.declared.command.Command.{Command}
use Rattle.sm_grammar.specs.Follows.{Follows}
use Rattle.sm_model.specs.declared.reply.Entry.{Entry}
use Rattle.sm_model.specs.World.{World, down, Deed}
use Rattle.sm_model.specs.LegalRun.{fault}
use Rattle.sm_defs.specs.Words.{Among}
use Rattle.laws_run.specs.Histories.{AllFaultless}
use Rattle.sm_history.specs.declared.fault.ActFault.{ActFault}
use Rattle.sm_history.specs.declared.fault.ActFault.TheVariants.{Unchanged, HistoryFull, NoMemory as OutOfMemory}
use Rattle.sm_node.specs.HandedBack.{AreInPlaces}
use Rattle.sm_node.specs.Nodes.{numbers}
use Rattle.sm_opening.specs.Looked.{disks_of, AllTold, EachMoves, IsKeptOn, IsLookedAt, IsDamageOf, AnswersDamage, IsFaultCounted}
use Rattle.sm_opening.specs.OnDisk.{Damage, IsDamage}
use Rattle.sm_opening.specs.Judged.{IsNoDiskFault}
use Rattle.sm_opening.specs.declared.fault.OpenFault.{OpenFault}
use Rattle.sm_opening.specs.declared.fault.OpenFault.TheVariants.{Unopened, NoMemory as NoRoom}
use Rattle.sm_core.specs.Kept.{Kept, StandsAt}
use Rattle.sm_core.specs.Opening.{OpensWhole}
use Rattle.sm_crew.specs.Coming.{Comes}
use Rattle.sm_crew.specs.Ended.{IsCutOff}
use Rattle.sm_crew.specs.Reporting.{IsWhole, IsEnded, IsCut, StaysUp, IsDownWith, report_of}
use Rattle.sm_output.specs.declared.status.Status.{Status}
use Rattle.sm_output.specs.declared.status.Status.TheVariants as statuses
use Rattle.sm_lab.specs.Promises.{IsLegalFrom}

-- ---- how a run ends

-- none of the entries tells that a disk failed
abbrev pub TellNoFault : List Entry → Type 0
TellNoFault es = (e : Entry) → Among es e → (disk : DiskNo) (count : ℕ) → ¬ (e.reply ≡ fault disk count)

-- the status of a run that was cut off in front of an event; nobody is answered that nothing has changed
abbrev pub cut_status : ActFault → Status
cut_status HistoryFull = statuses.HistoryFull
cut_status OutOfMemory = statuses.NoMemory
cut_status Unchanged = statuses.NoMemory

-- How far a run came, and its status. `done` are the entries of the commands and `own` those of the report, `reached` is the world
-- that the commands leave and `last` the one at the end.
pub data Ended (commands : List Command) (done own history : List Entry) (reached last : World) : Status → Type 0 where
  -- all was done, and the node is up
  whole : Follows commands done → IsWhole (report_of reached) own → StaysUp reached last → Ended commands done own history reached last statuses.Fine
  -- the report ended where it met that the node is down
  fell : (disk : DiskNo) → Follows commands done → IsEnded (report_of reached) own disk.0 → IsDownWith disk.0 last → Ended commands done own history reached last (statuses.DownAtEnd disk)
  -- the run was cut off in the commands
  early : (fault : ActFault) → IsCutOff commands done history fault → own ≡ [] → Ended commands done own history reached last (cut_status fault)
  -- or in the report
  late : (fault : ActFault) → Follows commands done → IsCut (report_of reached) own history fault → Ended commands done own history reached last (cut_status fault)

-- the status of a node that was not opened
abbrev pub open_status : OpenFault → Status
open_status (Unopened disk kind) = statuses.Unopened disk kind
open_status NoRoom = statuses.NoMemory

module _ {D : Type 0} (state : D → DiskState) where
  -- ---- over a catalogue

  -- Behind the old history stand the entries of the commands and then those of the report, and no others. Each is one step of the
  -- catalogue, which nothing else has changed.
  pub record RunsThrough (old : Kept D) (commands : List Command) (status : Status) (new : Kept D) : Type 0 where
    pub done : List Entry
    pub own : List Entry
    pub reached : Kept D
    pub commands_made : Comes state old done reached
    pub report_made : Comes state reached own new
    pub grown : new.history ≡ old.history ++ (done ++ own)
    pub sides : new.sides ≡ old.sides
    pub ended : Ended commands done own new.history reached.world new.world status

  -- ---- over disks

  -- The node was opened on the disks, run, and its disks handed back: whatever a restart may leave of them shows the last world,
  -- or one of the pair where that is down. Where they tell their content, the history is a legal run from the world that they spelled.
  pub record Runs (commands : List Command) (olds news : List D) (history : List Entry) (sides : List Side) (status : Status) : Type 0 where
    pub opened : Kept D
    pub closed : Kept D
    pub opens : OpensWhole state olds opened
    pub undamaged : AllTold state olds → (f : Damage) → ¬ IsDamage (disks_of state olds) f
    pub through : RunsThrough opened commands status closed
    pub history_is : history ≡ through.done ++ through.own
    pub sides_are : sides ≡ closed.sides
    pub back : AreInPlaces closed.node news
    pub stands : StandsAt state closed.world (numbers closed.node.seats) news
    pub legal : AllTold state news → IsLegalFrom opens.world history sides closed.world
    -- where no entry tells that a disk failed, none tells that the node is down, and it is up
    pub unfailed : TellNoFault history → AllFaultless history × ((disk : ℕ) (d : Deed) → ¬ (closed.world ≡ down disk d))

  -- No node was opened on the disks: no event ran, no disk reads otherwise, and a restart may leave nothing new.
  pub record IsUnopened (olds news : List D) (history : List Entry) (sides : List Side) (status : Status) : Type 0 where
    pub fault : OpenFault
    pub status_is : status ≡ open_status fault
    pub none : history ≡ []
    pub no_sides : sides ≡ []
    pub moves : EachMoves state IsKeptOn olds news
    -- but for a failure of a disk they were looked at alone
    pub quiet : IsNoDiskFault fault → EachMoves state IsLookedAt olds news
    -- a disk failed only where its count rose
    pub counted : IsFaultCounted state olds news fault
    -- every other fault is the first of the disks, and comes exactly there
    pub faults : AllTold state olds → IsDamageOf (IsDamage (disks_of state olds)) fault
    pub exact : AllTold state olds → (f : Damage) → IsDamage (disks_of state olds) f → AnswersDamage {A = Unit {0}} f (Err fault)

  abbrev pub RunsOrNot : List Command → List D → List D → List Entry → List Side → Status → Type 0
  RunsOrNot commands olds news history sides status = Runs commands olds news history sides status ⊎ IsUnopened olds news history sides status
