-- Worlds stay formed.
use Rattle.std.specs.Prelude.{◌≡◌, Some, Ok}
use Rattle.sm_defs.specs.World.{Up}
use Rattle.sm_model.specs.declared.event.Event.{Event}
use Rattle.sm_model.specs.World.{Deed}
use Rattle.sm_model.specs.Answers.{Reached}
use Rattle.sm_model.specs.Answer.{answer}
use Rattle.sm_model.specs.InRange.{IsGiven}
use Rattle.sm_model.specs.LegalRun.{IsDeed}
use Rattle.sm_model.specs.Opened.{opened}
use Rattle.sm_model.specs.Formed.{Formed}
use Rattle.sm_model.specs.Sound.{SoundUp}

-- of an event that a script, a worker or the report can ask for
abbrev pub AnswersKeepForm : Type 0
AnswersKeepForm = (w : Up) (e : Event) (reached : Reached) → SoundUp w → IsGiven e → answer w e ≡ Some (Ok reached) → Formed reached.world

abbrev pub DeedsKeepForm : Type 0
DeedsKeepForm = (e : Event) (d : Deed) → SoundUp d.old → IsGiven e → IsDeed e d → Formed d.new

abbrev pub RestartsKeepForm : Type 0
RestartsKeepForm = (w : Up) → Formed w → Formed (opened w)
