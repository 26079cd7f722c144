-- Relationships fit their volumes and each other.
use Rattle.sm_defs.specs.World.{Up}
use Rattle.sm_model.specs.declared.event.Event.{Event}
use Rattle.sm_model.specs.World.{Deed}
use Rattle.sm_model.specs.LegalRun.{IsDeed}
use Rattle.sm_model.specs.Opened.{opened}
use Rattle.sm_model.specs.Steps.{Effect}
use Rattle.sm_model.specs.Due.{IsStep}
use Rattle.sm_model.specs.Crossed.{Crossed}
use Rattle.sm_model.specs.Sound.{SoundUp}

abbrev pub StepsKeepCrossed : Type 0
StepsKeepCrossed = (w : Up) (e : Effect) → SoundUp w → IsStep w e → Crossed e.world

abbrev pub DeedsKeepCrossed : Type 0
DeedsKeepCrossed = (e : Event) (d : Deed) → SoundUp d.old → IsDeed e d → Crossed d.new

abbrev pub RestartsKeepCrossed : Type 0
RestartsKeepCrossed = (w : Up) → SoundUp w → Crossed (opened w)
