-- What opening asks of the world that records spell, where nothing is asked of bytes and the rules of
-- relationships were tested before.
use Rattle.std.specs.Prelude.{◌≡◌, length}
use Rattle.sm_defs.specs.Volume.{Volume, Snapshot}
use Rattle.sm_defs.specs.World.{Up}
use Rattle.sm_model.specs.Standing.{Stands}
use Rattle.sm_model.specs.Formed.{Formed}
use Rattle.sm_model.specs.TagsFit.{TagsFit}
use Rattle.sm_model.specs.FamiliesAgree.{FamiliesAgree}
use Rattle.sm_model.specs.DestinationsStand.{DestinationsStand}
use Rattle.sm_model.specs.LegsFit.{LegsFit}
use Rattle.sm_model.specs.NumbersStand.{NumbersStand}
use Rattle.sm_model.specs.FamiliesStand.{FamiliesStand}
use Rattle.sm_model.specs.LegsKept.{LegsKept}
use Rattle.sm_model.specs.TransfersStand.{TransfersStand}
use Rattle.sm_model.specs.declared.world.World.{World}
use Rattle.sm_shape.specs.Blank.{blank}

-- copies of one identity, whatever is in their blocks
pub record IsNamedCopy (s t : Snapshot) : Type 0 where
  pub name : s.name ≡ t.name
  pub label : s.label ≡ t.label
  pub time : s.time ≡ t.time
  pub maker : s.maker ≡ t.maker
  pub long : length s.image ≡ length t.image

abbrev pub CopiesNamed : Up → Type 0
CopiesNamed w = (v u : Volume) (s t : Snapshot) → Stands w v s → Stands w u t → s.ident ≡ t.ident → IsNamedCopy s t

-- of volumes and snapshots
pub record StateShape (w : Up) : Type 0 where
  pub formed : Formed w
  pub tags_fit : TagsFit w
  pub copies_named : CopiesNamed w
  pub families_agree : FamiliesAgree w
  pub numbers_stand : NumbersStand w

-- of relationships
pub record RelationShape (w : Up) : Type 0 where
  pub destinations_stand : DestinationsStand w
  pub families_stand : FamiliesStand w
  pub legs_kept : LegsKept w
  pub transfers_stand : TransfersStand w

-- but for what of the legs was shipped
pub record ShapeButLegs (w : Up) : Type 0 where
  pub state : StateShape w
  pub relations : RelationShape w

pub record ShapeUp (w : Up) : Type 0 where
  pub but_legs : ShapeButLegs w
  pub legs_fit : LegsFit w

abbrev pub HasShape : World → Type 0
HasShape w = ShapeUp (blank w)
