-- The events of a command, one after the other, by the replies so far.
use Rattle.std.specs.Prelude.{◌≡◌, ℕ, zero, suc, ◌+◌, ◌%◌, ◌==◌, ◌&&◌, Bool, true, false, not, nat_lt, if◌then◌else◌, List, [], ◌∷◌, map, Option, Some, None, MatchBool}
use Rattle.sm_base.specs.declared.refusal.Refusal.{Refusal}
use Rattle.sm_base.specs.declared.refusal.Refusal.TheVariants as refusals
use Rattle.sm_model.specs.declared.event.Event as the_event
use Rattle.sm_model.specs.declared.event.Event.TheVariants as events
use Rattle.sm_model.specs.declared.reply.Reply.{Reply}
use Rattle.sm_model.specs.declared.reply.Reply.TheVariants as replies
use Rattle.sm_grammar.specs.declared.command.Task.{Task}
use Rattle.sm_grammar.specs.declared.command.Task.TheVariants.{Once, Writes, Steps, Settle}

abbrev pub is_down : Refusal → Bool
is_down (refusals.Down disk) = true
is_down (refusals.DiskFault disk faults) = true
is_down _ = false

-- no step is due any more, or the node is down
unfoldable pub is_last : Reply → Bool
is_last replies.Idle = true
is_last (replies.Refused refusal) = is_down refusal
is_last _ = false

abbrev pub ended : Option Reply → Bool
ended None = false
ended (Some reply) = is_last reply

-- the j-th write of a command
abbrev pub write_at : List ℕ → ℕ → ℕ → ℕ → the_event.Event
write_at path block fill j = events.Write path (block + j) ((fill + j) % 256)

-- the event behind so many, of which the last was answered so
unfoldable pub next_of : Task → ℕ → Option Reply → Option the_event.Event
next_of (Once event) done last = if done == 0 then Some event else None
next_of (Writes path block count fill) done last = if nat_lt done count then Some (write_at path block fill done) else None
next_of (Steps count) done last = if nat_lt done count && not (ended last) then Some (events.Work true) else None
next_of Settle done last = if ended last then None else Some (events.Work false)

-- an event that was done, and its reply
pub record Done : Type 0 where
  pub event : the_event.Event
  pub reply : Reply

-- so many writes, from the j-th on
abbrev pub writes : List ℕ → ℕ → ℕ → ℕ → ℕ → List the_event.Event
writes path block fill j zero = []
writes path block fill j (suc n) = write_at path block fill j ∷ writes path block fill (j + 1) n

-- so many steps, but none behind the first that ends them
abbrev pub AreSteps : ℕ → List Done → Type 0
AreSteps zero all = all ≡ []
AreSteps (suc n) [] = ⊥
AreSteps (suc n) (d ∷ more) = (d.event ≡ events.Work true) × MatchBool (is_last d.reply) (more ≡ []) (AreSteps n more)

-- steps up to the first that ends them
abbrev pub AreAllSteps : List Done → Type 0
AreAllSteps [] = ⊥
AreAllSteps (d ∷ more) = (d.event ≡ events.Work false) × MatchBool (is_last d.reply) (more ≡ []) (AreAllSteps more)

-- these events are those of a command, each with its reply
abbrev pub ArePerformed : Task → List Done → Type 0
ArePerformed (Once event) all = map (λ d. d.event) all ≡ event ∷ []
ArePerformed (Writes path block count fill) all = map (λ d. d.event) all ≡ writes path block fill 0 count
ArePerformed (Steps count) all = AreSteps count all
ArePerformed Settle all = AreAllSteps all

-- each event is the next one, and behind them there is none
abbrev pub AreNext : Task → ℕ → Option Reply → List Done → Type 0
AreNext task done last [] = next_of task done last ≡ None
AreNext task done last (d ∷ more) = (next_of task done last ≡ Some d.event) × AreNext task (done + 1) (Some d.reply) more
