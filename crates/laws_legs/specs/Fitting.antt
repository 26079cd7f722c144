-- What was shipped of a transfer's legs fits.
use Rattle.std.specs.Prelude.{◌≡◌, Some, Ok}
use Rattle.sm_defs.specs.World.{Up}
use Rattle.sm_model.specs.declared.event.Event.{Event}
use Rattle.sm_model.specs.Answers.{Reached}
use Rattle.sm_model.specs.Answer.{answer}
use Rattle.sm_model.specs.World.{Deed}
use Rattle.sm_model.specs.LegalRun.{IsDeed}
use Rattle.sm_model.specs.Opened.{opened}
use Rattle.sm_model.specs.LegsFit.{LegsFit}
use Rattle.sm_model.specs.Sound.{SoundUp}

abbrev pub AnswersKeepFit : Type 0
AnswersKeepFit = (w : Up) (e : Event) (reached : Reached) → SoundUp w → answer w e ≡ Some (Ok reached) → LegsFit reached.world

abbrev pub RestartsKeepFit : Type 0
RestartsKeepFit = (w : Up) → SoundUp w → LegsFit (opened w)

abbrev pub DeedsKeepFit : Type 0
DeedsKeepFit = (e : Event) (d : Deed) → SoundUp d.old → IsDeed e d → LegsFit d.new
