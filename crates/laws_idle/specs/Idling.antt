-- A running transfer has a step due, and `Idle` is answered exactly where nothing is due.
use Rattle.std.specs.Prelude.{◌≡◌, ◌≢◌, ◌↔◌, ℕ, [], Some, None}
use Rattle.sm_defs.specs.World.{Up}
use Rattle.sm_model.specs.declared.event.Event.{Event}
use Rattle.sm_model.specs.World.{Deed}
use Rattle.sm_model.specs.Standing.{EachTransfer}
use Rattle.sm_model.specs.Running.{Running, IsRunning}
use Rattle.sm_model.specs.Steps.{Effect}
use Rattle.sm_model.specs.Due.{StepKind, kind_due, IsEffect, IsIdle, IsStep}
use Rattle.sm_model.specs.Choice.{chosen}
use Rattle.sm_model.specs.LegalRun.{IsDeed}
use Rattle.sm_model.specs.Opened.{opened}
use Rattle.sm_model.specs.Sound.{SoundUp}

-- A transfer without a base has a leg, which a sound world has of it.
abbrev pub EndsAtBase : Up → Type 0
EndsAtBase w = EachTransfer (λ r t. r.base ≡ None → t.legs ≢ []) w

-- no event and no step takes that away, whatever else the world is like
abbrev pub DeedsKeepEnds : Type 0
DeedsKeepEnds = (e : Event) (d : Deed) → EndsAtBase d.old → IsDeed e d → EndsAtBase d.new

abbrev pub RestartsKeepEnds : Type 0
RestartsKeepEnds = (w : Up) → EndsAtBase w → EndsAtBase (opened w)

-- a kind, and an effect of it: some leg's block may be shipped where the kind is to ship
abbrev pub RunningTransfersHaveSteps : Type 0
RunningTransfersHaveSteps = (w : Up) (k : ℕ) (x : Running) → SoundUp w → IsRunning w k x → (kind : StepKind) × (kind_due x ≡ Some kind) × (e : Effect) × IsEffect w k x kind e

-- the program finds no step for an actor exactly where there is none for anybody
abbrev pub IdleIsExact : Type 0
IdleIsExact = (w : Up) (a : ℕ) → SoundUp w → (chosen w a ≡ None) ↔ IsIdle w

abbrev pub ChosenIsDue : Type 0
ChosenIsDue = (w : Up) (a : ℕ) (e : Effect) → chosen w a ≡ Some e → IsStep w e
