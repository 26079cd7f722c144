-- The laws of what lands at a vault.
use Rattle.std.specs.Prelude.{◌≡◌, ◌≢◌, ◌↔◌, ◌⊎◌, ◌≤◌, ◌==◌, ℕ, suc, cond, false, List, [], ◌∷◌, length, Some, slice_get}
use Rattle.sm_defs.specs.Words.{Among, Ascends}
use Rattle.sm_defs.specs.Image.{Block, Image, SameContents, hole, stands, tags}
use Rattle.sm_defs.specs.Volume.{Volume, tags_of, free_tags}
use Rattle.sm_defs.specs.Missing.{Bases, missing_places, vault_cost, vault_landing, moved, is_missing_at, first_number, rest}
use Rattle.laws_transfer.specs.Costs.{tag_at}

-- holes read as zeros; a block that the leg and the source's base share has the bytes of the destination's base there
pub record LandsWhole (leg : Image) (bases : Bases) : Type 0 where
  pub holes_are_zeros : (p : ℕ) (b : Block) → slice_get leg p ≡ Some b → b.tag ≡ 0 → hole.bytes ≡ b.bytes
  pub kept_agree : (p : ℕ) (b : Block) → slice_get leg p ≡ Some b → b.tag ≢ 0 → b.tag ≡ tag_at bases.at_source p → (d : Block) × (slice_get bases.at_destination p ≡ Some d) × (d.bytes ≡ b.bytes)

-- whatever numbers the blocks take
abbrev pub LandingHasTheLegsBytes : Type 0
LandingHasTheLegsBytes = (leg : Image) (bases : Bases) (free : List ℕ) → LandsWhole leg bases → SameContents (vault_landing leg bases free) leg

-- the k-th missing block has the leg's bytes and the k-th number
abbrev pub MissingBlocksTakeNumbersInOrder : Type 0
MissingBlocksTakeNumbersInOrder =
    (leg : Image) (bases : Bases) (free : List ℕ) (k p t : ℕ) → slice_get (missing_places leg bases) k ≡ Some p → slice_get free k ≡ Some t →
    (b : Block) × (slice_get leg p ≡ Some b) × (slice_get (vault_landing leg bases free) p ≡ Some (moved b t))

-- of the free numbers of a volume, each once, the least first
abbrev pub FreeNumbersAscend : Type 0
FreeNumbersAscend = (v : Volume) → Ascends (free_tags v) × ((t : ℕ) → Among (free_tags v) t ↔ ((1 ≤ t) × (t ≤ v.physical) × (stands t (tags_of v) ≡ false)))

-- a landed block is a hole, the destination's block of the base at its place, or stands at a number that was free
abbrev pub LandsFree : Volume → Bases → ℕ → Block → Type 0
LandsFree v bases p b = (b.tag ≡ 0) ⊎ (slice_get bases.at_destination p ≡ Some b) ⊎ (stands b.tag (tags_of v) ≡ false)

abbrev pub LandingOverwritesNothing : Type 0
LandingOverwritesNothing =
    (leg : Image) (bases : Bases) (v : Volume) → vault_cost leg bases ≤ length (free_tags v) →
    (p : ℕ) (b : Block) → slice_get (vault_landing leg bases (free_tags v)) p ≡ Some b → LandsFree v bases p b

-- the same of maps, which have the numbers alone
abbrev pub missing_numbers_from : ℕ → List ℕ → List ℕ → List ℕ
missing_numbers_from at [] base = []
missing_numbers_from at (t ∷ ts) base =
    cond (is_missing_at t (first_number base)) (at ∷ missing_numbers_from (suc at) ts (rest base)) (missing_numbers_from (suc at) ts (rest base))

abbrev pub landed_numbers : List ℕ → List ℕ → List ℕ → List ℕ → List ℕ
landed_numbers [] source destination free = []
landed_numbers (t ∷ ts) source destination free =
    cond (is_missing_at t (first_number source)) (first_number free ∷ landed_numbers ts (rest source) (rest destination) (rest free))
    (cond (t == 0) 0 (first_number destination) ∷ landed_numbers ts (rest source) (rest destination) free)

-- which places are missing, and which numbers land, rests on the maps alone
abbrev pub LandingRestsOnMaps : Type 0
LandingRestsOnMaps =
    (leg : Image) (bases : Bases) (free : List ℕ) →
    (missing_places leg bases ≡ missing_numbers_from 0 (tags leg) (tags bases.at_source)) ×
    (tags (vault_landing leg bases free) ≡ landed_numbers (tags leg) (tags bases.at_source) (tags bases.at_destination) free)
