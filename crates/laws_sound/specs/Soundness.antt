-- Sound worlds stay sound.
use Rattle.std.specs.Prelude.{List}
use Rattle.sm_base.specs.declared.numbers.Side.{Side}
use Rattle.sm_defs.specs.World.{Up}
use Rattle.sm_model.specs.declared.event.Event.{Event}
use Rattle.sm_model.specs.declared.reply.Entry.{Entry}
use Rattle.sm_model.specs.World.{World, Deed}
use Rattle.sm_model.specs.InRange.{IsGiven}
use Rattle.sm_model.specs.LegalRun.{IsDeed, IsAsked, Fits}
use Rattle.sm_model.specs.Opened.{opened}
use Rattle.sm_model.specs.Sound.{SoundUp, Sound}

abbrev pub DeedsKeepSound : Type 0
DeedsKeepSound = (e : Event) (d : Deed) → SoundUp d.old → IsGiven e → IsDeed e d → SoundUp d.new

abbrev pub RestartsKeepSound : Type 0
RestartsKeepSound = (w : Up) → SoundUp w → SoundUp (opened w)

-- of a world that is down too
abbrev pub EntriesKeepSound : Type 0
EntriesKeepSound = (old new : World) (e : Entry) (sides left : List Side) (deeds : List Deed) → Sound old → IsAsked old e.event → Fits old e sides deeds new left → Sound new
