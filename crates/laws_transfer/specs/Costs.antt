-- The laws of what a leg costs.
use Rattle.std.specs.Prelude.{◌≡◌, ◌≢◌, ◌↔◌, ◌⊎◌, ℕ, zero, suc, List, [], ◌∷◌, Some, slice_get}
use Rattle.sm_defs.specs.Words.{Among, Ascends}
use Rattle.sm_defs.specs.Image.{Block, Image, tags}
use Rattle.sm_defs.specs.Volume.{Snapshot}
use Rattle.sm_defs.specs.Missing.{Bases, missing_tags, mirror_cost, missing_places, vault_cost}

-- some snapshot of the list has a block of the tag
abbrev pub HaveTag : List Snapshot → ℕ → Type 0
HaveTag ss t = (s : Snapshot) × Among ss s × Among (tags s.image) t

-- the tag at a place of an image, 0 behind its end
abbrev pub tag_at : Image → ℕ → ℕ
tag_at [] p = 0
tag_at (b ∷ bs) zero = b.tag
tag_at (b ∷ bs) (suc p) = tag_at bs p

abbrev pub IsMissingTag : Image → List Snapshot → ℕ → Type 0
IsMissingTag leg destination t = Among (tags leg) t × (t ≢ 0) × ¬ (HaveTag destination t)

-- the leg has a block at the place, and the source's base another or none
abbrev pub IsMissingPlace : Image → Bases → ℕ → Type 0
IsMissingPlace leg bases p = (b : Block) × (slice_get leg p ≡ Some b) × (b.tag ≢ 0) × (b.tag ≢ tag_at bases.at_source p)

abbrev pub MissingTagsAreThese : Type 0
MissingTagsAreThese = (leg : Image) (destination : List Snapshot) → Ascends (missing_tags leg destination) × ((t : ℕ) → Among (missing_tags leg destination) t ↔ IsMissingTag leg destination t)

-- no other list is like it
abbrev pub MissingTagsAreDetermined : Type 0
MissingTagsAreDetermined =
    (leg : Image) (destination : List Snapshot) (ts : List ℕ) → Ascends ts → ((t : ℕ) → Among ts t ↔ IsMissingTag leg destination t) → ts ≡ missing_tags leg destination

abbrev pub MissingPlacesAreThese : Type 0
MissingPlacesAreThese = (leg : Image) (bases : Bases) → Ascends (missing_places leg bases) × ((p : ℕ) → Among (missing_places leg bases) p ↔ IsMissingPlace leg bases p)

abbrev pub MirrorCostsNothing : Type 0
MirrorCostsNothing = (leg : Image) (destination : List Snapshot) → (mirror_cost leg destination ≡ 0) ↔ ((t : ℕ) → Among (tags leg) t → t ≢ 0 → HaveTag destination t)

abbrev pub VaultCostsNothing : Type 0
VaultCostsNothing = (leg : Image) (bases : Bases) → (vault_cost leg bases ≡ 0) ↔ ((p : ℕ) (b : Block) → slice_get leg p ≡ Some b → (b.tag ≡ 0) ⊎ (b.tag ≡ tag_at bases.at_source p))
