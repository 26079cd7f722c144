-- How far commands were done, and why they ended.
use Rattle.std.specs.Prelude.{◌≡◌, List, [], ◌∷◌, ◌++◌, map, length, Option, Some, None, Result, Ok, Err}
use Rattle.sm_base.specs.declared.limits.TheConstants.{MOST_ENTRIES}
use Rattle.sm_model.specs.declared.event.Event.{Event}
use Rattle.sm_model.specs.declared.reply.Entry.{Entry}
use Rattle.sm_model.specs.declared.reply.Reply.{Reply}
use Rattle.sm_grammar.specs.declared.command.Command.{Command}
use Rattle.sm_grammar.specs.Events.{next_of, ArePerformed}
use Rattle.sm_grammar.specs.Follows.{done_of, AreFor, AreFirst, Follows}
use Rattle.sm_history.specs.declared.fault.ActFault.{ActFault}
use Rattle.sm_history.specs.declared.fault.ActFault.TheVariants.{Unchanged, HistoryFull, NoMemory as OutOfMemory}

-- the reply of the last entry, or else the one before them
abbrev pub last_reply : Option Reply → List Entry → Option Reply
last_reply last [] = last
last_reply last (e ∷ es) = last_reply (Some e.reply) es

-- a further event of the command is due behind its entries, and there are as many entries as there may be
pub record IsFull (c : Command) (own history : List Entry) : Type 0 where
  pub event : Event
  pub due : next_of c.task (length own) (last_reply None own) ≡ Some event
  pub full : length history ≡ MOST_ENTRIES

-- want of memory is told apart from all else, and no command of a script is answered that nothing has changed
abbrev pub IsWhy : ActFault → Command → List Entry → List Entry → Type 0
IsWhy HistoryFull c own history = IsFull c own history
IsWhy OutOfMemory c own history = Unit {0}
IsWhy Unchanged c own history = ⊥

-- these entries are for the command, and are its first events in their order
pub record AreBegun (c : Command) (own : List Entry) : Type 0 where
  pub lines : AreFor c.line own
  pub first : AreFirst c.task 0 None (map done_of own)

-- all events of the command were done, or the first of them
abbrev pub EndsSo : Command → List Entry → List Entry → Result (Unit {0}) ActFault → Type 0
EndsSo c own history (Ok done) = AreFor c.line own × ArePerformed c.task (map done_of own)
EndsSo c own history (Err fault) = AreBegun c own × IsWhy fault c own history

-- Some commands were done, one was cut off behind these entries of its own, and those behind it were not begun.
pub record IsCutOff (commands : List Command) (entries history : List Entry) (fault : ActFault) : Type 0 where
  pub done : List Command
  pub cut : Command
  pub left : List Command
  pub commands_are : commands ≡ done ++ cut ∷ left
  pub before : List Entry
  pub own : List Entry
  pub entries_are : entries ≡ before ++ own
  pub follows : Follows done before
  pub begun : AreBegun cut own
  pub why : IsWhy fault cut own history

-- Ok says that the entries follow all commands
abbrev pub HaveRun : List Command → List Entry → List Entry → Result (Unit {0}) ActFault → Type 0
HaveRun commands entries history (Ok done) = Follows commands entries
HaveRun commands entries history (Err fault) = IsCutOff commands entries history fault
