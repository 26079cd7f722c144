-- Read-only volumes stand at one of their snapshots, and destinations show what was published last.
use Rattle.std.specs.Prelude.{◌≡◌, Some, Ok}
use Rattle.sm_defs.specs.World.{Up}
use Rattle.sm_model.specs.declared.event.Event.{Event}
use Rattle.sm_model.specs.World.{Deed}
use Rattle.sm_model.specs.Answers.{Reached}
use Rattle.sm_model.specs.Answer.{answer}
use Rattle.sm_model.specs.LegalRun.{IsDeed}
use Rattle.sm_model.specs.Opened.{opened}
use Rattle.sm_model.specs.DestinationsStand.{DestinationsStand}
use Rattle.sm_model.specs.Sound.{SoundUp}

abbrev pub AnswersKeepDestinations : Type 0
AnswersKeepDestinations = (w : Up) (e : Event) (reached : Reached) → SoundUp w → answer w e ≡ Some (Ok reached) → DestinationsStand reached.world

abbrev pub DeedsKeepDestinations : Type 0
DeedsKeepDestinations = (e : Event) (d : Deed) → SoundUp d.old → IsDeed e d → DestinationsStand d.new

abbrev pub RestartsKeepDestinations : Type 0
RestartsKeepDestinations = (w : Up) → SoundUp w → DestinationsStand (opened w)
