-- Families of volumes, by the volumes' places.
use Rattle.std.specs.Prelude.{◌≡◌, ◌≢◌, ℕ, ◌-◌, ◌≤◌, ◌<◌, ◌⊎◌, true, false, List, [], ◌∷◌, map, slice_index_or, Option, Some, None}
use Rattle.std.specs.List.{All}
use Rattle.sm_base.specs.declared.numbers.Ident.{Ident}
use Rattle.sm_base.specs.declared.numbers.Kind.TheVariants.{Dp}
use Rattle.sm_base.specs.declared.limits.TheConstants.{FIRST_MADE_FAMILY}
use Rattle.sm_defs.specs.Volume.{has}
use Rattle.sm_defs.specs.Made.{family_of_transfer}
use Rattle.sm_defs.specs.Relationship.{Policy, Relationship, Transfer, is_mirror}
use Rattle.sm_defs.specs.World.{Up, no_policy}
use Rattle.sm_model.specs.FamiliesStand.{FamilyStands}
use Rattle.sm_model.specs.declared.world.WorldVolume.{WorldVolume}
use Rattle.sm_model.specs.declared.world.WorldSnapshot.{WorldSnapshot}
use Rattle.sm_shape.specs.Blank.{blank_snapshot}

-- a family of so many volumes, or of a transfer before the next
abbrev pub IsGivenFamily : ℕ → ℕ → ℕ → Type 0
IsGivenFamily count next f = (f < count) ⊎ ((FIRST_MADE_FAMILY ≤ f) × (f - FIRST_MADE_FAMILY < next))

abbrev pub HasGivenFamily : ℕ → ℕ → WorldVolume → Type 0
HasGivenFamily count next v = IsGivenFamily count next v.family

-- the volume does not have the family of the transfer
abbrev pub HasOtherFamily : ℕ → WorldVolume → Type 0
HasOtherFamily number v = v.family ≢ family_of_transfer number

abbrev pub HasOne : Option Ident → List WorldSnapshot → Type 0
HasOne None ss = ⊥
HasOne (Some i) ss = has (map blank_snapshot ss) i ≡ true

abbrev pub first_of : List Ident → Option Ident
first_of [] = None
first_of (i ∷ is) = Some i

-- the snapshots have the base or the first leg
abbrev pub HasBaseOrFirst : Option Ident → List Ident → List WorldSnapshot → Type 0
HasBaseOrFirst base legs ss = HasOne base ss ⊎ HasOne (first_of legs) ss

-- a leg that the destination lacks is not there either
abbrev pub LegAlone : List WorldSnapshot → List WorldSnapshot → Ident → Type 0
LegAlone destination ss i = has (map blank_snapshot destination) i ≡ false → has (map blank_snapshot ss) i ≡ false

-- a vault that has its destination half at the place has neither a base nor a transfer
abbrev pub RestsAt : List Policy → ℕ → Relationship → Type 0
RestsAt ps n q = (q.destination_half ≡ true) × (q.destination ≡ n) × (is_mirror (slice_index_or ps q.policy no_policy).kind ≡ false) → (q.base ≡ None) × (q.transfer ≡ None)

abbrev pub StandsApart : List Policy → List Relationship → ℕ → WorldVolume → Type 0
StandsApart ps rs n v = v.kind ≡ Dp → (v.snapshots.items ≢ []) × All (RestsAt ps n) rs

-- another volume of the transfer's family
pub record OtherStands (ps : List Policy) (rs : List Relationship) (destination : List WorldSnapshot) (r : Relationship) (t : Transfer) (n : ℕ) (v : WorldVolume) : Type 0 where
  pub alone : n ≢ r.destination → v.family ≡ family_of_transfer t.number → All (LegAlone destination v.snapshots.items) t.legs
  pub apart : n ≢ r.destination → v.family ≡ family_of_transfer t.number → StandsApart ps rs n v

pub record StandsInFamily (w : Up) (r : Relationship) (t : Transfer) : Type 0 where
  pub stands : FamilyStands w r t

abbrev pub OwnFamilyStands : Up → Relationship → Type 0
OwnFamilyStands w r = (t : Transfer) → r.transfer ≡ Some t → StandsInFamily w r t

pub record HasFamilyStanding (w : Up) (r : Relationship) : Type 0 where
  pub own : OwnFamilyStands w r
