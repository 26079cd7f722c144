-- The sound world.
use Rattle.sm_defs.specs.World.{Up}
use Rattle.sm_model.specs.World.{World, up, down}
use Rattle.sm_model.specs.Formed.{Formed}
use Rattle.sm_model.specs.TagsFit.{TagsFit}
use Rattle.sm_model.specs.CopiesAgree.{CopiesAgree}
use Rattle.sm_model.specs.FamiliesAgree.{FamiliesAgree}
use Rattle.sm_model.specs.Crossed.{Crossed}
use Rattle.sm_model.specs.DestinationsStand.{DestinationsStand}
use Rattle.sm_model.specs.LegsFit.{LegsFit}
use Rattle.sm_model.specs.NumbersStand.{NumbersStand}
use Rattle.sm_model.specs.FamiliesStand.{FamiliesStand}
use Rattle.sm_model.specs.LegsKept.{LegsKept}
use Rattle.sm_model.specs.TransfersStand.{TransfersStand}

pub record SoundUp (w : Up) : Type 0 where
  pub formed : Formed w
  pub tags_fit : TagsFit w
  pub copies_agree : CopiesAgree w
  pub families_agree : FamiliesAgree w
  pub crossed : Crossed w
  pub destinations_stand : DestinationsStand w
  pub legs_fit : LegsFit w
  pub numbers_stand : NumbersStand w
  pub families_stand : FamiliesStand w
  pub legs_kept : LegsKept w
  pub transfers_stand : TransfersStand w

abbrev pub Sound : World → Type 0
Sound (up w) = SoundUp w
Sound (down disk d) = SoundUp d.old × SoundUp d.new
