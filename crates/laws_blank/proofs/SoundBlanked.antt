-- A sound world is sound where blocks are read as zeros.
use Rattle.sm_defs.specs.World.{Up}
use Rattle.sm_model.specs.Sound.{SoundUp}
use Rattle.sm_shape.specs.Blanked.{blanked}
use Rattle.laws_blank.proofs.FormOfBlanked.{formed_blanked, tags_fit_blanked}
use Rattle.laws_blank.proofs.CopiesOfBlanked.{copies_blanked, families_blanked}
use Rattle.laws_blank.proofs.RelationsOfBlanked.{crossed_blanked, destinations_blanked, numbers_blanked, families_stand_blanked, legs_kept_blanked, transfers_stand_blanked}
use Rattle.laws_blank.proofs.LegsOfBlanked.{legs_fit_blanked}

pub sound_blanked : (w : Up) → SoundUp w → SoundUp (blanked w)
sound_blanked w s = record {
  formed = formed_blanked w s.formed;
  tags_fit = tags_fit_blanked w s.tags_fit;
  copies_agree = copies_blanked w s.copies_agree;
  families_agree = families_blanked w s.families_agree;
  crossed = crossed_blanked w s.crossed;
  destinations_stand = destinations_blanked w s.destinations_stand;
  legs_fit = legs_fit_blanked w s.legs_fit;
  numbers_stand = numbers_blanked w s.numbers_stand;
  families_stand = families_stand_blanked w s.families_stand;
  legs_kept = legs_kept_blanked w s.legs_kept;
  transfers_stand = transfers_stand_blanked w s.transfers_stand;
}
