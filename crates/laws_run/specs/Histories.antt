-- Which histories the laws speak of: those in which no disk fails, and in which no worker may choose.
use Rattle.std.specs.Prelude.{◌≡◌, ℕ, List}
use Rattle.std.specs.List.{AllByRecursion}
use Rattle.sm_base.specs.declared.numbers.DiskNo.{DiskNo}
use Rattle.sm_model.specs.declared.event.Event.{Event}
use Rattle.sm_model.specs.declared.event.Event.TheVariants as events
use Rattle.sm_model.specs.declared.reply.Entry.{Entry}
use Rattle.sm_model.specs.declared.reply.Reply.{Reply}
use Rattle.sm_model.specs.World.{Deed}
use Rattle.sm_model.specs.LegalRun.{fault, is_down, IsChosen}

-- the reply tells of no disk that failed, now or before
pub record IsFaultless (reply : Reply) : Type 0 where
  pub no_fault : (disk : DiskNo) (count : ℕ) → ¬ (reply ≡ fault disk count)
  pub is_up : (disk : ℕ) → ¬ (reply ≡ is_down disk)

abbrev pub AllFaultless : List Entry → Type 0
AllFaultless es = AllByRecursion (λ e. IsFaultless e.reply) es

-- world and sides of restarts alone tell what the event does: only a worker's step may be one of several
abbrev pub IsDecided : Event → Type 0
IsDecided (events.Work shown) = ⊥
IsDecided _ = Unit {0}

abbrev pub AllDecided : List Entry → Type 0
AllDecided es = AllByRecursion (λ e. IsDecided e.event) es

-- each worker's step is the one that this program chooses for its actor
abbrev pub AllChosen : List Deed → Type 0
AllChosen ds = AllByRecursion (λ d. IsChosen d.event d) ds
