-- Identities are of numbers that were given.
use Rattle.sm_defs.specs.World.{Up}
use Rattle.sm_model.specs.declared.event.Event.{Event}
use Rattle.sm_model.specs.World.{Deed}
use Rattle.sm_model.specs.InRange.{IsGiven}
use Rattle.sm_model.specs.LegalRun.{IsDeed}
use Rattle.sm_model.specs.Opened.{opened}
use Rattle.sm_model.specs.NumbersStand.{NumbersStand}
use Rattle.sm_model.specs.Sound.{SoundUp}

-- of an event that a script, a worker or the report can ask for
abbrev pub DeedsKeepNumbers : Type 0
DeedsKeepNumbers = (e : Event) (d : Deed) → SoundUp d.old → IsGiven e → IsDeed e d → NumbersStand d.new

abbrev pub RestartsKeepNumbers : Type 0
RestartsKeepNumbers = (w : Up) → SoundUp w → NumbersStand (opened w)
