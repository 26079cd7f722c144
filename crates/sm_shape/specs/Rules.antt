-- The rules of one relationship, by the volumes and the policy that it names.
use Rattle.std.specs.Prelude.{◌≡◌, ◌≢◌, ℕ, ◌<◌, ◌≤◌, ◌⊎◌, true, Bool, List, map, Option, Some}
use Rattle.sm_base.specs.declared.numbers.Ident.{Ident}
use Rattle.sm_base.specs.declared.numbers.Kind.TheVariants.{Dp}
use Rattle.sm_defs.specs.Volume.{has}
use Rattle.sm_defs.specs.Relationship.{Relationship, Policy, Transfer, is_mirror}
use Rattle.sm_defs.specs.Words.{KeysDiffer}
use Rattle.std.specs.List.{All}
use Rattle.sm_model.specs.Crossed.{IsReservedLeg, CrossedTransfer}
use Rattle.sm_defs.specs.World.{Up}
use Rattle.sm_model.specs.declared.world.WorldVolume.{WorldVolume}
use Rattle.sm_model.specs.declared.world.WorldSnapshot.{WorldSnapshot}
use Rattle.sm_shape.specs.Blank.{blank_snapshot, blank_volume}

abbrev pub NumbersFit : Relationship → ℕ → Type 0
NumbersFit r next = (r.source ≢ r.destination) × (1 ≤ r.number) × (r.number < next)

abbrev pub HalvesFit : Relationship → WorldVolume → Type 0
HalvesFit r d = r.destination_half ≡ true → d.kind ≡ Dp → r.source_half ≡ true

abbrev pub IsBaseOn : Option Ident → Bool → List WorldSnapshot → Type 0
IsBaseOn base half ss = (i : Ident) → base ≡ Some i → half ≡ true → has (map blank_snapshot ss) i ≡ true

abbrev pub SizesFit : WorldVolume → WorldVolume → Policy → Type 0
SizesFit s d p = (s.logical ≡ d.logical) × (is_mirror p.kind ≡ true → s.physical ≡ d.physical)

abbrev pub BasesFit : Relationship → WorldVolume → WorldVolume → Type 0
BasesFit r s d = IsBaseOn r.base r.source_half s.snapshots.items × IsBaseOn r.base r.destination_half d.snapshots.items

abbrev pub PairFits : Relationship → WorldVolume → WorldVolume → Policy → ℕ → Type 0
PairFits r s d p next = NumbersFit r next × (HalvesFit r d × (BasesFit r s d × SizesFit s d p))

-- the world has these volumes and policies, and the number of the next relationship
pub record HasThese (w : Up) (volumes : List WorldVolume) (policies : List Policy) (next : ℕ) : Type 0 where
  pub volumes_are : w.volumes ≡ map blank_volume volumes
  pub policies_are : w.policies ≡ policies
  pub next_is : w.next_relation ≡ next

-- the source has the leg, or it is still to be made
abbrev pub IsLegOf : Relationship → Transfer → WorldVolume → Ident → Type 0
IsLegOf r t s i = (has (map blank_snapshot s.snapshots.items) i ≡ true) ⊎ IsReservedLeg r t i

-- what a transfer asks of its relationship and its source
pub record TransferFits (r : Relationship) (t : Transfer) (s : WorldVolume) (next : ℕ) : Type 0 where
  pub at_source : r.source_half ≡ true
  pub at_destination : r.destination_half ≡ true
  pub counts : 1 ≤ t.number
  pub given : t.number < next
  pub legs_differ : KeysDiffer (λ (i : Ident). i) t.legs
  pub legs_at_source : All (IsLegOf r t s) t.legs

abbrev pub OwnTransferFits : Relationship → WorldVolume → ℕ → Type 0
OwnTransferFits r s next = (t : Transfer) → r.transfer ≡ Some t → TransferFits r t s next

abbrev pub HasCrossedTransfer : Up → Relationship → Type 0
HasCrossedTransfer w r = (t : Transfer) → r.transfer ≡ Some t → CrossedTransfer w r t
