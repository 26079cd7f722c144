-- What holds of a world whose blocks are read as zeros, whatever the bytes of the world are.
use Rattle.std.specs.Prelude.{◌≡◌, ℕ, false, Some, Ok, slice_get, option_map}
use Rattle.sm_model.specs.declared.event.Event.{Event}
use Rattle.sm_defs.specs.Volume.{Volume, has}
use Rattle.sm_defs.specs.World.{Up}
use Rattle.sm_model.specs.Answers.{Reached}
use Rattle.sm_model.specs.Answer.{answer}
use Rattle.sm_model.specs.Crossed.{Crossed}
use Rattle.sm_model.specs.InRange.{IsGiven}
use Rattle.sm_model.specs.OfVolumes.{client_ident}
use Rattle.sm_model.specs.Opened.{opened}
use Rattle.sm_model.specs.Sound.{SoundUp}
use Rattle.sm_shape.specs.Blanked.{blanked}
use Rattle.sm_shape.specs.Shape.{ShapeUp}
use Rattle.laws_blank.specs.Blanking.{ShowsNoBytes, blanked_event, blanked_answer}

-- the same reply or refusal, and the world that is reached, with zeros
abbrev pub AnswersCommute : Type 0
AnswersCommute = (w : Up) (e : Event) → ShowsNoBytes e → answer (blanked w) (blanked_event e) ≡ option_map blanked_answer (answer w e)

-- the world is sound, whatever the bytes of its blocks are
abbrev pub SoundButBytes : Up → Type 0
SoundButBytes w = SoundUp (blanked w)

abbrev pub SoundIsSoundBlanked : Type 0
SoundIsSoundBlanked = (w : Up) → SoundUp w → SoundButBytes w

-- of the shape that opening asks for, where the relationships fit
abbrev pub ShapedIsSound : Type 0
ShapedIsSound = (w : Up) → ShapeUp (blanked w) → Crossed (blanked w) → SoundButBytes w

-- through each answer of an event that a script, a worker or the report can ask for, also one that shows bytes
abbrev pub BlankedStaysSound : Type 0
BlankedStaysSound = (w : Up) (e : Event) (r : Reached) → IsGiven e → SoundButBytes w → answer w e ≡ Some (Ok r) → SoundButBytes r.world

abbrev pub RestartsStaySound : Type 0
RestartsStaySound = (w : Up) → SoundButBytes w → SoundButBytes (opened w)

-- of a client's next snapshot
abbrev pub IdentitiesAreNew : Type 0
IdentitiesAreNew = (w : Up) (at : ℕ) (v : Volume) → SoundButBytes w → slice_get w.volumes at ≡ Some v → has v.snapshots (client_ident at v) ≡ false
