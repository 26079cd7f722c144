-- How a standing transfer begins.
use Rattle.std.specs.Prelude.{◌≡◌, ◌≢◌, false, List, [], ◌∷◌, None}
use Rattle.sm_base.specs.declared.numbers.Ident.{Ident}
use Rattle.sm_base.specs.declared.numbers.Kind.TheVariants.{Rw}
use Rattle.sm_base.specs.declared.numbers.TransferKind.TheVariants.{Resync}
use Rattle.sm_defs.specs.Words.{Among}
use Rattle.sm_defs.specs.Volume.{Volume, Snapshot, has}
use Rattle.sm_defs.specs.Relationship.{Relationship, Transfer}
use Rattle.sm_defs.specs.World.{Up, volume_at}
use Rattle.sm_model.specs.Standing.{EachTransfer}

abbrev pub later : List Ident → List Ident
later [] = []
later (i ∷ is) = is

abbrev pub IsFirst : List Ident → Ident → Type 0
IsFirst [] i = ⊥
IsFirst (j ∷ js) i = i ≡ j

pub record TransferStands (v : Volume) (r : Relationship) (t : Transfer) : Type 0 where
  pub writable : v.kind ≡ Rw → (t.kind ≡ Resync) × (t.checkpoint ≡ 0) × (t.landed ≡ []) × ((i : Ident) → Among t.legs i → has v.snapshots i ≡ false)
  pub unpruned : v.kind ≡ Rw → t.pruned ≡ false
  pub resync : t.kind ≡ Resync → r.base ≢ None
  pub ahead : (i : Ident) → Among (later t.legs) i → has v.snapshots i ≡ false
  -- else it could not be settled, since nothing would be the base
  pub ends : r.base ≡ None → t.legs ≢ []
  pub first_time : r.base ≡ None → (s : Snapshot) → Among v.snapshots s → IsFirst t.legs s.ident

abbrev pub TransfersStand : Up → Type 0
TransfersStand w = EachTransfer (λ r t. TransferStands (volume_at w r.destination) r t) w
