-- Standing transfers stand.
use Rattle.sm_defs.specs.World.{Up}
use Rattle.sm_model.specs.declared.event.Event.{Event}
use Rattle.sm_model.specs.World.{Deed}
use Rattle.sm_model.specs.LegalRun.{IsDeed}
use Rattle.sm_model.specs.Opened.{opened}
use Rattle.sm_model.specs.TransfersStand.{TransfersStand}
use Rattle.sm_model.specs.Sound.{SoundUp}

abbrev pub DeedsKeepTransfers : Type 0
DeedsKeepTransfers = (e : Event) (d : Deed) → SoundUp d.old → IsDeed e d → TransfersStand d.new

abbrev pub RestartsKeepTransfers : Type 0
RestartsKeepTransfers = (w : Up) → SoundUp w → TransfersStand (opened w)
