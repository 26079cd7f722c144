-- Numbers of blocks fit, and copies agree.
use Rattle.std.specs.Prelude.{◌≡◌, Some, Ok}
use Rattle.sm_defs.specs.World.{Up}
use Rattle.sm_model.specs.declared.event.Event.{Event}
use Rattle.sm_model.specs.World.{Deed}
use Rattle.sm_model.specs.Answers.{Reached}
use Rattle.sm_model.specs.Answer.{answer}
use Rattle.sm_model.specs.Steps.{Effect}
use Rattle.sm_model.specs.Due.{IsStep}
use Rattle.sm_model.specs.LegalRun.{IsDeed}
use Rattle.sm_model.specs.Opened.{opened}
use Rattle.sm_model.specs.TagsFit.{TagsFit}
use Rattle.sm_model.specs.CopiesAgree.{CopiesAgree}
use Rattle.sm_model.specs.Sound.{SoundUp}

abbrev pub AnswersKeepTags : Type 0
AnswersKeepTags = (w : Up) (e : Event) (reached : Reached) → SoundUp w → answer w e ≡ Some (Ok reached) → TagsFit reached.world

abbrev pub StepsKeepTags : Type 0
StepsKeepTags = (w : Up) (e : Effect) → SoundUp w → IsStep w e → TagsFit e.world

abbrev pub DeedsKeepTags : Type 0
DeedsKeepTags = (e : Event) (d : Deed) → SoundUp d.old → IsDeed e d → TagsFit d.new

abbrev pub RestartsKeepTags : Type 0
RestartsKeepTags = (w : Up) → TagsFit w → TagsFit (opened w)

abbrev pub AnswersKeepCopies : Type 0
AnswersKeepCopies = (w : Up) (e : Event) (reached : Reached) → SoundUp w → answer w e ≡ Some (Ok reached) → CopiesAgree reached.world

abbrev pub StepsKeepCopies : Type 0
StepsKeepCopies = (w : Up) (e : Effect) → SoundUp w → IsStep w e → CopiesAgree e.world

abbrev pub DeedsKeepCopies : Type 0
DeedsKeepCopies = (e : Event) (d : Deed) → SoundUp d.old → IsDeed e d → CopiesAgree d.new

abbrev pub RestartsKeepCopies : Type 0
RestartsKeepCopies = (w : Up) → CopiesAgree w → CopiesAgree (opened w)
