-- What is needed stays.
use Rattle.std.specs.Prelude.{◌≡◌, ℕ, true, Some, Ok}
use Rattle.sm_base.specs.declared.numbers.Ident.{Ident}
use Rattle.sm_defs.specs.Volume.{has}
use Rattle.sm_defs.specs.Needed.{needed}
use Rattle.sm_defs.specs.World.{Up, volume_at}
use Rattle.sm_model.specs.declared.event.Event.{Event}
use Rattle.sm_model.specs.World.{Deed}
use Rattle.sm_model.specs.Answers.{Reached}
use Rattle.sm_model.specs.Answer.{answer}
use Rattle.sm_model.specs.Steps.{Effect}
use Rattle.sm_model.specs.Due.{IsStep}
use Rattle.sm_model.specs.LegalRun.{IsDeed}
use Rattle.sm_model.specs.Opened.{opened}

-- each snapshot that a volume has and that is needed there is there still
abbrev pub KeepsNeeded : Up → Up → Type 0
KeepsNeeded old new = (v : ℕ) (i : Ident) → has (volume_at old v).snapshots i ≡ true → needed old v i ≡ true → has (volume_at new v).snapshots i ≡ true

abbrev pub AnswersKeepTheNeeded : Type 0
AnswersKeepTheNeeded = (w : Up) (e : Event) (reached : Reached) → answer w e ≡ Some (Ok reached) → KeepsNeeded w reached.world

abbrev pub StepsKeepTheNeeded : Type 0
StepsKeepTheNeeded = (w : Up) (e : Effect) → IsStep w e → KeepsNeeded w e.world

-- of every world, sound or not
abbrev pub DeedsKeepTheNeeded : Type 0
DeedsKeepTheNeeded = (e : Event) (d : Deed) → IsDeed e d → KeepsNeeded d.old d.new

-- a restart leaves each volume's snapshots as they are: it drops none, and brings none
abbrev pub RestartsKeepSnapshots : Type 0
RestartsKeepSnapshots = (w : Up) (v : ℕ) → (volume_at (opened w) v).snapshots ≡ (volume_at w v).snapshots
