-- Calls in which nothing fails, and how they end.
use Rattle.std.specs.Prelude.{◌≡◌, ◌⊎◌, ℕ, ◌≤◌, List, length, Some, Ok, slice_get}
use Rattle.sm_base.specs.declared.limits.TheConstants.{LONGEST_SCRIPT}
use Rattle.sm_disk.specs.Disk.{DiskState, IsCounted}
use Rattle.sm_grammar.specs.declared.command.Command.{Command}
use Rattle.sm_grammar.specs.Script.{parse}
use Rattle.laws_run.specs.Histories.{AllFaultless}
use Rattle.sm_words.specs.declared.options.Mode.TheVariants as modes
use Rattle.sm_opening.specs.Looked.{disks_of, AllTold}
use Rattle.sm_opening.specs.OnDisk.{Damage, IsDamage}
use Rattle.sm_output.specs.declared.status.Status.{Status}
use Rattle.sm_output.specs.declared.status.Status.TheVariants as statuses
use Rattle.sm_lab.specs.Running.{TellNoFault}
use Rattle.sm_lab.specs.Call.{Flow, Failed, Call, Asks, Ends}

-- a script of the grammar is asked for and left of the source
pub record HasScript {D : Type 0} (c : Call D) : Type 0 where
  pub asks : Asks c.options modes.Run
  pub text : List ℕ
  pub left : c.script.before ≡ Some text
  pub short : length text ≤ LONGEST_SCRIPT
  pub commands : List Command
  pub says : parse text ≡ Ok commands

-- There is a script, or none is asked for; the disks tell their content and have no damage; no count of failures rose, and no
-- entry tells of one.
pub record IsSmooth {D : Type 0} (state : D → DiskState) (c : Call D) (out : Flow) : Type 0 where
  pub given : HasScript c ⊎ Asks c.options modes.Report
  pub source : ¬ Failed c.script
  pub sink : ¬ Failed out
  pub told : AllTold state c.disks
  pub undamaged : (f : Damage) → ¬ IsDamage (disks_of state c.disks) f
  pub counts : (n : ℕ) (x y : D) → slice_get c.disks n ≡ Some x → slice_get c.disks_after n ≡ Some y → ¬ IsCounted (state x) (state y)
  pub entries : TellNoFault c.history

-- all was done, or there were as many entries as there may be, or memory ran out
abbrev pub IsWell : Status → Type 0
IsWell s = (s ≡ statuses.Fine) ⊎ (s ≡ statuses.HistoryFull) ⊎ (s ≡ statuses.NoMemory)

abbrev pub SmoothCallsEndWell : {D : Type 0} → (D → DiskState) → Type 0
SmoothCallsEndWell state = (c : Call _) (out : Flow) (status : Status) → Ends state c out status → IsSmooth state c out → IsWell status × AllFaultless c.history
