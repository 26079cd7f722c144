-- A sound world has the shape of one that is read.
use Rattle.std.proofs.Common.{length, sym, ap, ◌∙◌}
use Rattle.std.proofs.lemmas.List.{length-map}
use Rattle.sm_defs.specs.Image.{bytes_of}
use Rattle.sm_defs.specs.World.{Up}
use Rattle.sm_model.specs.Sound.{SoundUp}
use Rattle.sm_model.specs.CopiesAgree.{CopiesAgree}
use Rattle.sm_model.specs.Crossed.{Crossed}
use Rattle.sm_shape.specs.Blanked.{blanked}
use Rattle.sm_shape.specs.Interim.{IsInterim}
use Rattle.sm_shape.specs.Shape.{CopiesNamed, ShapeUp}
use Rattle.sm_opening.specs.OnDisk.{IsShaped}
use Rattle.laws_blank.proofs.SoundBlanked.{sound_blanked}

copies_named : (w : Up) → CopiesAgree w → CopiesNamed w
copies_named w agree v u s t there also same =
    let copy = agree v u s t there also same in
    record {
      name = copy.name;
      label = copy.label;
      time = copy.time;
      maker = copy.maker;
      long = sym (length-map s.image bytes_of) ∙ ap length copy.contents ∙ length-map t.image bytes_of;
    }

shape_of : (w : Up) → SoundUp w → ShapeUp w
shape_of w sound = record {
  but_legs = record {
    state = record {
      formed = sound.formed;
      tags_fit = sound.tags_fit;
      copies_named = copies_named w sound.copies_agree;
      families_agree = sound.families_agree;
      numbers_stand = sound.numbers_stand;
    };
    relations = record {
      destinations_stand = sound.destinations_stand;
      families_stand = sound.families_stand;
      legs_kept = sound.legs_kept;
      transfers_stand = sound.transfers_stand;
    };
  };
  legs_fit = sound.legs_fit;
}

pub crossed_blanked : (w : Up) → SoundUp w → Crossed (blanked w)
crossed_blanked w sound = (sound_blanked w sound).crossed

pub shape_blanked : (w : Up) → SoundUp w → ShapeUp (blanked w)
shape_blanked w sound = shape_of (blanked w) (sound_blanked w sound)

-- relationships and policies have no blocks
pub shaped_blanked : (w : Up) → SoundUp w → IsInterim w → IsShaped (blanked w)
shaped_blanked w sound interim = record {
  interim = record { relations = interim.relations; policies = interim.policies };
  shape = shape_blanked w sound;
}
