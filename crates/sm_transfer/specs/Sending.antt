-- A transfer as its steps have it: the plan of its first leg, and how far it is.
use Rattle.std.specs.Prelude.{◌≡◌, ℕ, ◌≤◌, ◌<◌, Bool, true, List, length, slice_index_or, Option, Some, None}
use Rattle.sm_base.specs.declared.refusal.Reason.{Reason}
use Rattle.sm_bits.specs.Places.{has}
use Rattle.sm_defs.specs.Words.{Among, Ascends}
use Rattle.sm_defs.specs.Volume.{numbers}
use Rattle.sm_defs.specs.Progress.{landed_prefix}
use Rattle.sm_model.specs.Due.{insert_landed}
use Rattle.sm_select.specs.Planned.{Planned}

pub record Sending : Type 0 where
  pub plan : Planned
  -- the indexes of the plan's blocks that have landed, ascending
  pub landed : List ℕ
  pub checkpoint : ℕ
  -- why it does not run; none while it does
  pub stopped : Option Reason

-- the marks of the indexes: one for each block of the plan, and all set below the checkpoint
pub record IsSending (plan : Planned) (marks : List Bool) (checkpoint : ℕ) : Type 0 where
  pub long : length marks ≡ length plan.pairs
  pub within : checkpoint ≤ length plan.pairs
  pub below : (k : ℕ) → k < checkpoint → has marks k ≡ true

-- what landed ascends, is of the plan, and has all below the checkpoint
pub record IsUnderWay (t : Sending) : Type 0 where
  pub ascends : Ascends t.landed
  pub planned : (k : ℕ) → Among t.landed k → k < length t.plan.pairs
  pub below : (k : ℕ) → k < t.checkpoint → Among t.landed k
  pub within : t.checkpoint ≤ length t.plan.pairs

abbrev pub no_pair : ℕ × ℕ
no_pair = (0, 0)

-- the source's number and the destination's of an index
abbrev pub from_of : Planned → ℕ → ℕ
from_of plan index = (slice_index_or plan.pairs index no_pair).0

abbrev pub to_of : Planned → ℕ → ℕ
to_of plan index = (slice_index_or plan.pairs index no_pair).1

-- it runs on from a checkpoint
abbrev pub begun : Planned → ℕ → Sending
begun plan checkpoint = record { plan = plan; landed = numbers 0 checkpoint; checkpoint = checkpoint; stopped = None }

-- one index more has landed
abbrev pub with_landed : Sending → ℕ → Sending
with_landed t index = record t { landed = insert_landed index t.landed }

-- the checkpoint is what landed without a gap
abbrev pub checked : Sending → Sending
checked t = record t { checkpoint = landed_prefix t.landed }

-- it stops, and what landed past the checkpoint is forgotten
abbrev pub stopped_by : Reason → Sending → Sending
stopped_by reason t = record t { landed = numbers 0 t.checkpoint; stopped = Some reason }
