-- How a history that follows a script grows, event by event and command by command.
use Rattle.std.proofs.Common.{◌≡◌, ℕ, suc, ◌+◌, List, [], ◌∷◌, ◌++◌, length, map, Option, Some, None, inl, inr, refl, sym, ap, ◌∙◌, arith, append_assoc, append-nil}
use Rattle.sm_model.specs.declared.reply.Entry.{Entry}
use Rattle.sm_model.specs.declared.reply.Reply.{Reply}
use Rattle.sm_grammar.specs.declared.command.Command.{Command}
use Rattle.sm_grammar.specs.declared.command.Task.{Task}
use Rattle.sm_grammar.specs.Events.{Done, next_of, AreNext, ArePerformed}
use Rattle.sm_grammar.specs.Follows.{done_of, AreFor, AreFirst, Follows, FollowsSoFar}
use Rattle.sm_grammar.proofs.StepLemmas.{next_performed}

-- the last reply of these, or the one before them
abbrev pub last_of : Option Reply → List Done → Option Reply
last_of last [] = last
last_of last (d ∷ more) = last_of (Some d.reply) more

next_at : (task : Task) (i j : ℕ) (last : Option Reply) (event : Option _) → i ≡ j → next_of task i last ≡ event → next_of task j last ≡ event
next_at task i j last event same e = rw (← same) e

-- one more event behind those that came first
pub first_more : (task : Task) (j : ℕ) (last : Option Reply) (all : List Done) (d : Done) → AreFirst task j last all → next_of task (j + length all) (last_of last all) ≡ Some d.event → AreFirst task j last (all ++ (d ∷ []))
first_more task j last [] d first next = (next_at task (j + 0) j last (Some d.event) (omega arith) next, tt)
first_more task j last (e ∷ more) d first next =
    (first.0, first_more task (j + 1) (Some e.reply) more d first.1 (next_at task (j + suc (length more)) (j + 1 + length more) (last_of (Some e.reply) more) (Some d.event) (omega arith) next))

-- where none is next, these are all
pub first_all : (task : Task) (j : ℕ) (last : Option Reply) (all : List Done) → AreFirst task j last all → next_of task (j + length all) (last_of last all) ≡ None → AreNext task j last all
first_all task j last [] first none = next_at task (j + 0) j last None (omega arith) none
first_all task j last (e ∷ more) first none =
    (first.0, first_all task (j + 1) (Some e.reply) more first.1 (next_at task (j + suc (length more)) (j + 1 + length more) (last_of (Some e.reply) more) None (omega arith) none))

-- the events of a command, where none is next behind them
pub performed : (task : Task) (all : List Done) → AreFirst task 0 None all → next_of task (length all) (last_of None all) ≡ None → ArePerformed task all
performed task all first none =
    (next_performed task all).0 (first_all task 0 None all first (next_at task (length all) (0 + length all) (last_of None all) None (omega arith) none))

-- a history that follows some commands, and behind it the events of one more
pub follows_more : (commands : List Command) (c : Command) (before own : List Entry) → Follows commands before → AreFor c.line own → ArePerformed c.task (map done_of own) → Follows (commands ++ (c ∷ [])) (before ++ own)
follows_more [] c before own follows lines done = (own, [], ap (λ es. es ++ own) follows ∙ sym (append-nil own), lines, done, refl)
follows_more (b ∷ commands) c before own (first, later, is, of_line, whole, rest) lines done =
    (first, later ++ own, ap (λ es. es ++ own) is ∙ append_assoc first later own, of_line, whole, follows_more commands c later own rest lines done)

-- the same where the last command was cut off, or is not the last one
pub so_far : (commands : List Command) (c : Command) (behind : List Command) (before own : List Entry) → Follows commands before → AreFor c.line own → AreFirst c.task 0 None (map done_of own) → FollowsSoFar (commands ++ (c ∷ behind)) (before ++ own)
so_far [] c behind before own follows lines first = rw follows (inl (lines, first))
so_far (b ∷ commands) c behind before own (first, later, is, of_line, whole, rest) lines own_first =
    inr (first, later ++ own, ap (λ es. es ++ own) is ∙ append_assoc first later own, of_line, whole, so_far commands c behind later own rest lines own_first)

-- a history that follows all commands follows them so far
pub whole_so_far : (commands : List Command) (entries : List Entry) → Follows commands entries → FollowsSoFar commands entries
whole_so_far [] entries follows = follows
whole_so_far (c ∷ commands) entries (first, later, is, of_line, whole, rest) = inr (first, later, is, of_line, whole, whole_so_far commands later rest)

-- the same by the events that come next
pub follows_next : (c : Command) (commands : List Command) (before own : List Entry) → Follows commands before → AreFor c.line own → AreNext c.task 0 None (map done_of own) → Follows (commands ++ (c ∷ [])) (before ++ own)
follows_next c commands before own follows lines next = follows_more commands c before own follows lines ((next_performed c.task (map done_of own)).0 next)
