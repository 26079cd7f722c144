-- Vaults send what their rules keep.
use Rattle.sm_defs.specs.World.{Up}
use Rattle.sm_model.specs.declared.event.Event.{Event}
use Rattle.sm_model.specs.World.{Deed}
use Rattle.sm_model.specs.LegalRun.{IsDeed}
use Rattle.sm_model.specs.Opened.{opened}
use Rattle.sm_model.specs.LegsKept.{LegsKept}
use Rattle.sm_model.specs.Sound.{SoundUp}

abbrev pub DeedsKeepLegs : Type 0
DeedsKeepLegs = (e : Event) (d : Deed) → SoundUp d.old → IsDeed e d → LegsKept d.new

abbrev pub RestartsKeepLegs : Type 0
RestartsKeepLegs = (w : Up) → SoundUp w → LegsKept (opened w)
