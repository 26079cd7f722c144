-- What stands in a world.
use Rattle.std.specs.Prelude.{◌≡◌, ℕ, Some, slice_get}
use Rattle.sm_defs.specs.Words.{Among}
use Rattle.sm_defs.specs.Image.{Block, Image}
use Rattle.sm_defs.specs.Volume.{Volume, Snapshot, images_of}
use Rattle.sm_defs.specs.Relationship.{Relationship, Transfer}
use Rattle.sm_defs.specs.World.{Up}

-- the block stands at a place of one of the volume's images
abbrev pub Stored : Volume → ℕ → Block → Type 0
Stored v p b = (image : Image) × Among (images_of v) image × (slice_get image p ≡ Some b)

abbrev pub EachVolume : (Volume → Type 0) → Up → Type 0
EachVolume P w = (v : Volume) → Among w.volumes v → P v

-- the snapshot stands on a volume
abbrev pub Stands : Up → Volume → Snapshot → Type 0
Stands w v s = Among w.volumes v × Among v.snapshots s

-- P of each relationship
abbrev pub EachRelation : (Relationship → Type 0) → Up → Type 0
EachRelation P w = (r : Relationship) → Among w.relations r → P r

-- P of each relationship with its transfer
abbrev pub EachTransfer : (Relationship → Transfer → Type 0) → Up → Type 0
EachTransfer P w = (r : Relationship) (t : Transfer) → Among w.relations r → r.transfer ≡ Some t → P r t
