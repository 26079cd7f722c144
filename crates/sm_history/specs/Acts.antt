-- What one event does to a value that keeps its history.
use Rattle.std.specs.Prelude.{◌≡◌, ℕ, ◌⊎◌, List, [], ◌∷◌, ◌++◌, Option, Some, None, Result, MatchResult}
use Rattle.sm_model.specs.declared.event.Event.{Event}
use Rattle.sm_model.specs.declared.reply.Entry.{Entry}
use Rattle.sm_model.specs.declared.reply.Reply.{Reply}
use Rattle.sm_model.specs.Telling.{told_by}
use Rattle.sm_history.specs.declared.fault.ActFault.{ActFault}
use Rattle.sm_history.specs.declared.fault.ActFault.TheVariants.{NoMemory as OutOfMemory}

abbrev pub entry : ℕ → ℕ → Event → Reply → Entry
entry actor line event reply = record { actor = actor; line = line; event = event; reply = reply }

-- the reply that is kept tells what was answered, the history has this entry more, and the value comes by it too
pub record IsDone {S : Type 0} (history : S → List Entry) (comes : S → List Entry → S → Type 0) (old new : S) (actor line : ℕ) (event : Event) (reply : Reply) : Type 0 where
  pub kept : Reply
  pub tells : told_by kept ≡ told_by reply
  pub grown : history new ≡ history old ++ entry actor line event kept ∷ []
  pub reached : (from : S) (es : List Entry) → comes from es old → comes from (es ++ entry actor line event kept ∷ []) new

-- nothing was done: the history is what it was, and the value comes by the same entries
pub record IsUndone {S : Type 0} (history : S → List Entry) (comes : S → List Entry → S → Type 0) (old new : S) : Type 0 where
  pub same : history new ≡ history old
  pub reached : (from : S) (es : List Entry) → comes from es old → comes from es new

-- a fault comes exactly where the test gives it, but for want of memory
abbrev pub Faults : Option ActFault → Result Reply ActFault → Type 0
Faults test result = MatchResult result (λ _. test ≡ None) (λ fault. (fault ≡ OutOfMemory) ⊎ (test ≡ Some fault))
