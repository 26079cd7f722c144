-- How a history follows the commands of a script.
use Rattle.std.specs.Prelude.{◌≡◌, ◌⊎◌, ℕ, ◌+◌, List, [], ◌∷◌, ◌++◌, map, Option, Some, None}
use Rattle.std.specs.List.{AllByRecursion}
use Rattle.sm_model.specs.declared.reply.Entry.{Entry}
use Rattle.sm_model.specs.declared.reply.Reply.{Reply}
use Rattle.sm_grammar.specs.declared.command.Command.{Command}
use Rattle.sm_grammar.specs.declared.command.Task.{Task}
use Rattle.sm_grammar.specs.Events.{Done, next_of, ArePerformed}

abbrev pub done_of : Entry → Done
done_of e = record { event = e.event; reply = e.reply }

-- the script's actor asked for it, by this line
abbrev pub IsFor : ℕ → Entry → Type 0
IsFor line e = (e.actor ≡ 0) × (e.line ≡ line)

abbrev pub AreFor : ℕ → List Entry → Type 0
AreFor line entries = AllByRecursion (IsFor line) entries

-- each command has its events in order, by the replies that stand there
abbrev pub Follows : List Command → List Entry → Type 0
Follows [] entries = entries ≡ []
Follows (c ∷ commands) entries =
    (first later : List Entry) × (entries ≡ first ++ later) × AreFor c.line first × ArePerformed c.task (map done_of first) × Follows commands later

-- each event is the next one, and more may come behind them
abbrev pub AreFirst : Task → ℕ → Option Reply → List Done → Type 0
AreFirst task done last [] = Unit {0}
AreFirst task done last (d ∷ more) = (next_of task done last ≡ Some d.event) × AreFirst task (done + 1) (Some d.reply) more

-- a run that was cut off: some commands are done, and of the next one some events
abbrev pub FollowsSoFar : List Command → List Entry → Type 0
FollowsSoFar [] entries = entries ≡ []
FollowsSoFar (c ∷ commands) entries =
    (AreFor c.line entries × AreFirst c.task 0 None (map done_of entries)) ⊎
    ((first later : List Entry) × (entries ≡ first ++ later) × AreFor c.line first × ArePerformed c.task (map done_of first) × FollowsSoFar commands later)
