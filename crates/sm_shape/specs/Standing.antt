-- How a transfer begins, by what its destination shows.
use Rattle.std.specs.Prelude.{◌≡◌, ◌≢◌, false, List, [], map, Some, None}
use Rattle.std.specs.List.{All}
use Rattle.sm_base.specs.declared.numbers.Ident.{Ident}
use Rattle.sm_base.specs.declared.numbers.Kind.{Kind}
use Rattle.sm_base.specs.declared.numbers.Kind.TheVariants.{Rw}
use Rattle.sm_base.specs.declared.numbers.TransferKind.TheVariants.{Resync}
use Rattle.sm_defs.specs.Volume.{has}
use Rattle.sm_defs.specs.Relationship.{Relationship, Transfer}
use Rattle.sm_defs.specs.World.{Up, volume_at}
use Rattle.sm_model.specs.TransfersStand.{later, IsFirst, TransferStands}
use Rattle.sm_model.specs.declared.world.WorldSnapshot.{WorldSnapshot}
use Rattle.sm_shape.specs.Blank.{blank_snapshot}

abbrev pub Lacks : List WorldSnapshot → Ident → Type 0
Lacks ss i = has (map blank_snapshot ss) i ≡ false

-- a resync that did nothing yet
pub record BeginsAnew (t : Transfer) (ss : List WorldSnapshot) : Type 0 where
  pub kind : t.kind ≡ Resync
  pub checkpoint : t.checkpoint ≡ 0
  pub landed : t.landed ≡ []
  pub unpruned : t.pruned ≡ false
  pub legs : All (Lacks ss) t.legs

abbrev pub IsFirstOf : List Ident → WorldSnapshot → Type 0
IsFirstOf legs s = IsFirst legs s.ident

abbrev pub FirstTime : List Ident → List WorldSnapshot → Type 0
FirstTime legs ss = (legs ≢ []) × All (IsFirstOf legs) ss

pub record StandsWith (kind : Kind) (ss : List WorldSnapshot) (r : Relationship) (t : Transfer) : Type 0 where
  pub writable : kind ≡ Rw → BeginsAnew t ss
  pub resync : t.kind ≡ Resync → r.base ≢ None
  pub ahead : All (Lacks ss) (later t.legs)
  pub first_time : r.base ≡ None → FirstTime t.legs ss

abbrev pub OwnStandsWith : Kind → List WorldSnapshot → Relationship → Type 0
OwnStandsWith kind ss r = (t : Transfer) → r.transfer ≡ Some t → StandsWith kind ss r t

pub record HasStanding (w : Up) (r : Relationship) : Type 0 where
  pub stands : (t : Transfer) → r.transfer ≡ Some t → TransferStands (volume_at w r.destination) r t
