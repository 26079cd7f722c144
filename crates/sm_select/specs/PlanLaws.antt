-- What the plans are in the words of images and volumes.
use Rattle.std.specs.Prelude.{◌≡◌, ℕ, ◌<◌, ◌≤◌, List, Bool, map, length, take, slice_index}
use Rattle.std.specs.List.{All}
use Rattle.sm_bits.specs.Places.{has}
use Rattle.sm_defs.specs.Image.{Image, stands, tags}
use Rattle.sm_defs.specs.Volume.{Snapshot}
use Rattle.sm_defs.specs.Missing.{tags_in, missing_tags, mirror_cost, Bases, missing_places, vault_cost, vault_landing}
use Rattle.sm_select.specs.Planned.{Planned, mirror_plan, vault_plan, missing_count, twice}

-- of the numbers that are places of the set, but 0, it has those of the snapshots
abbrev pub HasNumbersOf : List Bool → List Snapshot → Type 0
HasNumbersOf have snapshots = (t : ℕ) → 1 ≤ t → t < length have → has have t ≡ stands t (tags_in snapshots)

-- the numbers are those of the image, with holes behind its end
abbrev pub HasTags : List ℕ → Image → Type 0
HasTags numbers image = (place : ℕ) → slice_index numbers place ≡ slice_index (tags image) place

-- a mirror's leg lands as it is, and each missing number at itself
pub record IsMirrorPlan (leg : Image) (destination : List Snapshot) (plan : Planned) : Type 0 where
  pub missing : plan.pairs ≡ map twice (missing_tags leg destination)
  pub lands : plan.map ≡ tags leg
  pub cost : length plan.pairs ≡ mirror_cost leg destination

abbrev pub number_at : Image → ℕ → ℕ
number_at image place = slice_index (tags image) place

abbrev pub from_number : ℕ × ℕ → ℕ
from_number p = p.0

abbrev pub to_number : ℕ × ℕ → ℕ
to_number p = p.1

-- a vault's leg lands as the landing says; the source's numbers are those of the missing places, in order, and the
-- destination's the least free ones, in order
pub record IsVaultPlan (leg : Image) (bases : Bases) (free : List ℕ) (plan : Planned) : Type 0 where
  pub from : map from_number plan.pairs ≡ map (number_at leg) (missing_places leg bases)
  pub to : vault_cost leg bases ≤ length free → map to_number plan.pairs ≡ take (vault_cost leg bases) free
  pub lands : plan.map ≡ tags (vault_landing leg bases free)
  pub cost : length plan.pairs ≡ vault_cost leg bases

-- what the plan of a mirror's leg is, by the numbers of the leg and those that the destination has
abbrev pub MirrorPlans : Type 0
MirrorPlans = (leg : Image) (have : List Bool) (destination : List Snapshot) →
    All (λ t. t < length have) (tags leg) → HasNumbersOf have destination →
    IsMirrorPlan leg destination (mirror_plan (tags leg) have)

-- and that of a vault's leg, by the numbers of the leg, those of its base on each side and the free ones
abbrev pub VaultPlans : Type 0
VaultPlans = (leg : Image) (bases : Bases) (source destination free : List ℕ) → HasTags source bases.at_source → HasTags destination bases.at_destination →
    IsVaultPlan leg bases free (vault_plan (tags leg) source destination free) × (missing_count (tags leg) source ≡ vault_cost leg bases)
