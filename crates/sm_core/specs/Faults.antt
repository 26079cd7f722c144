-- Why an event makes no entry.
use Rattle.std.specs.Prelude.{◌≡◌, ℕ, ◌==◌, ◌&&◌, nat_lt, if◌then◌else◌, Bool, true, false, List, length, reverse, Option, Some, None, Result, Err, OnErr}
use Rattle.std.specs.List.{list_any, take_while}
use Rattle.sm_base.specs.declared.limits.TheConstants.{MOST_ENTRIES}
use Rattle.sm_base.specs.declared.refusal.Refusal.TheVariants as refusals
use Rattle.sm_model.specs.declared.event.Event as the_event
use Rattle.sm_model.specs.declared.event.Event.TheVariants as events
use Rattle.sm_model.specs.declared.reply.Entry.{Entry}
use Rattle.sm_model.specs.declared.reply.Reply as the_reply
use Rattle.sm_model.specs.declared.reply.Reply.TheVariants as replies
use Rattle.sm_history.specs.declared.fault.ActFault.{ActFault}
use Rattle.sm_history.specs.declared.fault.ActFault.TheVariants.{Unchanged, HistoryFull, NoMemory as OutOfMemory}

abbrev pub is_work : the_event.Event → Bool
is_work (events.Work shown) = true
is_work _ = false

-- nothing was due, or the node was down
abbrev pub is_idle : the_reply.Reply → Bool
is_idle replies.Idle = true
is_idle (replies.Refused (refusals.Down disk)) = true
is_idle _ = false

-- of the newest entries, up to the first that did something, one is the actor's
abbrev pub is_idle_since : List Entry → ℕ → Bool
is_idle_since entries actor = list_any (λ e. e.actor == actor) (take_while (λ e. is_idle e.reply) (reverse entries))

-- a worker asks again, and nothing was done since its last answer
abbrev pub is_unchanged : List Entry → ℕ → the_event.Event → Bool
is_unchanged entries actor event = is_work event && (nat_lt 0 actor && is_idle_since entries actor)

abbrev pub act_fault : List Entry → ℕ → the_event.Event → Option ActFault
act_fault entries actor event =
    if is_unchanged entries actor event then Some Unchanged
    else (if length entries == MOST_ENTRIES then Some HistoryFull else None)

-- the fault comes exactly where it stands; without one an entry is made, or no memory is found
abbrev pub Faults : {A : Type 0} → Option ActFault → Result A ActFault → Type 0
Faults (Some fault) result = result ≡ Err fault
Faults None result = OnErr result (result ≡ Err OutOfMemory)
