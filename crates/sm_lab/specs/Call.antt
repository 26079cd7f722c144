-- The call of the program: what it was given, what it did, and what it handed back.
use Rattle.std.specs.Prelude.{◌≡◌, ℕ, ◌&&◌, Bool, true, false, List, [], Option, Some, None, Ok}
use Rattle.sm_base.specs.declared.numbers.Side.{Side}
use Rattle.sm_disk.specs.Disk.{DiskState}
use Rattle.sm_grammar.specs.declared.command.Command.{Command}
use Rattle.sm_model.specs.declared.reply.Entry.{Entry}
use Rattle.sm_stream.specs.Causes.{Rose}
use Rattle.sm_words.specs.declared.options.Mode.{Mode}
use Rattle.sm_words.specs.declared.options.Mode.TheVariants as modes
use Rattle.sm_words.specs.declared.options.Options.{Options}
use Rattle.sm_output.specs.Output.{IsPrinted}
use Rattle.sm_output.specs.declared.status.Status.{Status}
use Rattle.sm_output.specs.declared.status.Status.TheVariants as statuses
use Rattle.sm_lab.specs.Reading.{Gave, GaveNone}
use Rattle.sm_lab.specs.Running.{RunsOrNot}

-- ---- what a call has

-- a source or a sink, before the call and after it: the bytes that are left or held, where they are told, and how often it has failed
pub record Flow : Type 0 where
  pub before : Option (List ℕ)
  pub after : Option (List ℕ)
  pub faults : ℕ
  pub faults_after : ℕ

abbrev pub flow : Option (List ℕ) → Option (List ℕ) → ℕ → ℕ → Flow
flow before after faults faults_after = record { before = before; after = after; faults = faults; faults_after = faults_after }

-- its count of failures rose
abbrev pub Failed : Flow → Type 0
Failed f = Rose f.faults f.faults_after

-- The options are those of the words, or none where these are no line of the command. The disks are those that were given and
-- those that came back, and history and sides what was done on them.
pub record Call (D : Type 0) : Type 0 where
  pub options : Option Options
  pub script : Flow
  pub disks : List D
  pub disks_after : List D
  pub history : List Entry
  pub sides : List Side

-- ---- what the options ask for

-- what is built: a mode, without workers
pub record Asks (options : Option Options) (mode : Mode) : Type 0 where
  pub it : Options
  pub is : options ≡ Some it
  pub mode_is : it.mode ≡ mode
  pub alone : it.workers ≡ 0

abbrev pub is_run : Mode → Bool
is_run modes.Run = true
is_run modes.Report = false

-- the lines of the entries are asked for; a report never has them
abbrev pub lists : Option Options → Bool
lists None = false
lists (Some o) = is_run o.mode && o.history

-- ---- what it did

-- the source was not touched
abbrev pub ReadsNothing : {D : Type 0} → Call D → Type 0
ReadsNothing c = (c.script.after ≡ c.script.before) × (c.script.faults_after ≡ c.script.faults)

-- no event ran, and the disks are those that were given
pub record DoesNothing {D : Type 0} (c : Call D) : Type 0 where
  pub history : c.history ≡ []
  pub sides : c.sides ≡ []
  pub disks : c.disks_after ≡ c.disks

-- How a call goes before it writes anything, and the status that it would end by.
pub data Ran {D : Type 0} (state : D → DiskState) (c : Call D) : Status → Type 0 where
  -- the words are no line of the command, or ask for what is not built
  usage : ((mode : Mode) → ¬ Asks c.options mode) → ReadsNothing c → DoesNothing c → Ran state c statuses.Usage
  -- there is no memory for the words
  starved : ReadsNothing c → DoesNothing c → Ran state c statuses.NoMemory
  -- the source gave no script
  unread : (status : Status) → Asks c.options modes.Run → GaveNone c.script.before c.script.after (Failed c.script) status → DoesNothing c → Ran state c status
  -- it gave one, which was run on the disks
  scripted : (status : Status) → Asks c.options modes.Run → (commands : List Command) → Gave c.script.before c.script.after (Ok commands)
      → RunsOrNot state commands c.disks c.disks_after c.history c.sides status → Ran state c status
  -- no script was asked for: the report alone
  reported : (status : Status) → Asks c.options modes.Report → ReadsNothing c → RunsOrNot state [] c.disks c.disks_after c.history c.sides status → Ran state c status

-- So the call went, and then its output was written to the sink. It ends by the status that it would have, by want of memory for
-- the texts, or, whatever the status would be, by that of a sink that failed.
pub record Ends {D : Type 0} (state : D → DiskState) (c : Call D) (out : Flow) (status : Status) : Type 0 where
  pub before : Status
  pub ran : Ran state c before
  pub printed : IsPrinted (lists c.options) before c.history out.before out.after (Failed out) status
