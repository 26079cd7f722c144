-- Which world the images of a node's disks spell, one image for each disk, or the first fault in them. Disk 0 is tested
-- first, then the volumes by number, then the relationships by number, then the shape of the whole.
use Rattle.std.specs.Prelude.{◌≡◌, ◌≢◌, ◌⊎◌, ℕ, suc, ◌+◌, ◌<◌, ◌≤◌, false, List, [], ◌∷◌, ◌++◌, length, take, map, Some, None, slice_get}
use Rattle.std.specs.List.{flat_map}
use Rattle.sm_base.specs.declared.limits.TheConstants.{SLOTS_END}
use Rattle.sm_defs.specs.Volume.{Volume}
use Rattle.sm_defs.specs.Relationship.{Relationship}
use Rattle.sm_defs.specs.World.{Up}
use Rattle.sm_defs.specs.Words.{Among}
use Rattle.sm_disk.specs.Image.{Image, part}
use Rattle.sm_slots.specs.Stored.{stored, slot_of, slot_start}
use Rattle.sm_root.specs.declared.root.Root.{Root}
use Rattle.volume_store.specs.Held.{need}
use Rattle.volume_store.specs.Opened.{IsRootOn, IsNoRootOn, least_need}
use Rattle.sm_volume.specs.Seen.{volume_of}
use Rattle.sm_model.specs.declared.world.OpenKind.{OpenKind}
use Rattle.sm_model.specs.declared.world.OpenKind.TheVariants.{NoDisk, Short, Record, Number, Cross, Shape}
use Rattle.sm_model.specs.Crossed.{Crossed}
use Rattle.sm_model.specs.Opened.{rejoined}
use Rattle.sm_register.specs.Opened.{NoneAt}
use Rattle.sm_relation.specs.declared.relation.Relation.{Relation}
use Rattle.sm_relation.specs.Shown.{relationship_of}
use Rattle.sm_catroot.specs.declared.TheConstants.{MAGIC}
use Rattle.sm_catroot.specs.declared.placed.Placed.{Placed}
use Rattle.sm_catroot.specs.Catalog.{Catalog}
use Rattle.sm_catroot.specs.Condition.{again}
use Rattle.sm_catroot.specs.Kept.{ShowsCatalog, BreaksCatalog}
use Rattle.sm_catroot.specs.Spelling.{numbers_digits, numbers_of, volumes_bytes, policies_bytes, relation_digits}
use Rattle.sm_shape.specs.Crossing.{IsFirstCrossing}
use Rattle.sm_shape.specs.Interim.{IsInterim}
use Rattle.sm_shape.specs.Shape.{ShapeUp}
use Rattle.sm_shape.specs.Blanked.{blanked}

-- the disks of a node by their numbers: how many bytes each has, and an image of it
pub record Disks : Type 0 where
  pub sizes : List ℕ
  pub images : ℕ → Image

-- what an image holds are bytes
abbrev pub AreBytes : Disks → Type 0
AreBytes d = (n place : ℕ) → d.images n place < 256

-- a fault: the number of a disk, a place on it, and what it is
pub record Damage : Type 0 where
  pub disk : ℕ
  pub at : ℕ
  pub kind : OpenKind

abbrev pub damage : ℕ → ℕ → OpenKind → Damage
damage disk at kind = record { disk = disk; at = at; kind = kind }

-- where the selected slot of an image begins
abbrev pub record_start : Image → ℕ
record_start c = slot_start (slot_of c)

-- ---- the world that a catalogue and roots spell

-- as a restart leaves it: what is on disk of a transfer does not tell whether it ran
abbrev pub read_relation : Relation → Relationship
read_relation r = rejoined (relationship_of [] false r)

abbrev pub image_at : Disks → Placed → Image
image_at d p = d.images p.disk.0

-- with its stable image as the active one
abbrev pub read_volume : Disks → Placed → Root → Volume
read_volume d p r = volume_of p.path p.disk.0 (image_at d p) (record { root = r; active = r.stable })

abbrev pub read_volumes : Disks → List Placed → List Root → List Volume
read_volumes d (p ∷ ps) (r ∷ rs) = read_volume d p r ∷ read_volumes d ps rs
read_volumes d ps rs = []

abbrev pub world_of : Disks → Catalog → List Root → Up
world_of d k roots = record {
  clock = k.clock;
  next_relation = k.next_relation;
  next_transfer = k.next_transfer;
  volumes = read_volumes d k.volumes roots;
  policies = k.policies;
  relations = map read_relation k.relations;
  disks = d.sizes;
}

-- ---- disk 0

-- its record is this catalogue; a blank slot stands for the empty one
pub record IsCatalogOn (d : Disks) (k : Catalog) : Type 0 where
  pub size : ℕ
  pub is_disk : slice_get d.sizes 0 ≡ Some size
  pub room : SLOTS_END ≤ size
  pub shown : ShowsCatalog k (stored (d.images 0))
  pub read : again k ≡ k

-- the record is none at this byte of it: a length that passes the slot is so after the magic word
abbrev pub IsNoCatalogOn : Image → ℕ → Type 0
IsNoCatalogOn c from = NoneAt BreaksCatalog MAGIC (part c (record_start c) 8) (stored c) from

-- on a disk 0 of this size
abbrev pub IsCatalogFault : Disks → ℕ → Damage → Type 0
IsCatalogFault d size f =
    ((size < SLOTS_END) × (f ≡ damage 0 size Short))
    ⊎ ((SLOTS_END ≤ size) × (from : ℕ) × IsNoCatalogOn (d.images 0) from × (f ≡ damage 0 (record_start (d.images 0) + from) Record))

abbrev pub IsCatalogDamage : Disks → Damage → Type 0
IsCatalogDamage d f =
    ((slice_get d.sizes 0 ≡ None) × (f ≡ damage 0 0 NoDisk))
    ⊎ ((size : ℕ) × (slice_get d.sizes 0 ≡ Some size) × IsCatalogFault d size f)

-- ---- a volume's disk

-- the volume lies on a disk of this size, which is not that of the catalogue or of a volume before it
pub record LiesOn (d : Disks) (before : List Placed) (p : Placed) (size : ℕ) : Type 0 where
  pub behind : p.disk.0 ≢ 0
  pub is_disk : slice_get d.sizes p.disk.0 ≡ Some size
  pub alone : (q : Placed) → Among before q → q.disk.0 ≢ p.disk.0

abbrev pub LiesNowhere : Disks → List Placed → Placed → Type 0
LiesNowhere d before p =
    (p.disk.0 ≡ 0) ⊎ (slice_get d.sizes p.disk.0 ≡ None) ⊎ ((q : Placed) × Among before q × (q.disk.0 ≡ p.disk.0))

-- the disk's record is the root of volume i
pub record IsVolumeOn (d : Disks) (before : List Placed) (i : ℕ) (p : Placed) (r : Root) : Type 0 where
  pub size : ℕ
  pub lies : LiesOn d before p size
  pub long : least_need ≤ size
  pub root : IsRootOn (image_at d p) r
  pub room : need r.physical ≤ size
  pub numbered : r.number.0 ≡ i

-- of a root that was read: the disk is shorter than its physical size needs, or it is another volume's
abbrev pub IsRootDamage : Disks → ℕ → Placed → ℕ → Root → Damage → Type 0
IsRootDamage d i p size r f =
    ((size < need r.physical) × (f ≡ damage p.disk.0 size Short))
    ⊎ ((need r.physical ≤ size) × (r.number.0 ≢ i) × (f ≡ damage p.disk.0 (record_start (image_at d p) + 12) Number))

-- of what the selected slot spells
abbrev pub IsRecordDamage : Disks → ℕ → Placed → ℕ → Damage → Type 0
IsRecordDamage d i p size f =
    ((from : ℕ) × IsNoRootOn (image_at d p) from × (f ≡ damage p.disk.0 (record_start (image_at d p) + from) Record))
    ⊎ ((r : Root) × IsRootOn (image_at d p) r × IsRootDamage d i p size r f)

-- of a disk of this size: it is shorter than the smallest volume needs, or its record is at fault
abbrev pub IsDiskDamage : Disks → ℕ → Placed → ℕ → Damage → Type 0
IsDiskDamage d i p size f =
    ((size < least_need) × (f ≡ damage p.disk.0 size Short))
    ⊎ ((least_need ≤ size) × IsRecordDamage d i p size f)

abbrev pub IsVolumeDamage : Disks → List Placed → ℕ → Placed → Damage → Type 0
IsVolumeDamage d before i p f =
    (LiesNowhere d before p × (f ≡ damage p.disk.0 0 NoDisk))
    ⊎ ((size : ℕ) × LiesOn d before p size × IsDiskDamage d i p size f)

-- the volumes behind these, from number i on, have these roots
abbrev pub AreVolumesOn : Disks → List Placed → ℕ → List Placed → List Root → Type 0
AreVolumesOn d before i [] [] = Unit {0}
AreVolumesOn d before i (p ∷ ps) (r ∷ rs) = IsVolumeOn d before i p r × AreVolumesOn d (before ++ p ∷ []) (suc i) ps rs
AreVolumesOn d before i ps rs = ⊥

-- the first of them that has a fault has this one
abbrev pub IsFirstDamage : Disks → List Placed → ℕ → List Placed → Damage → Type 0
IsFirstDamage d before i [] f = ⊥
IsFirstDamage d before i (p ∷ ps) f =
    IsVolumeDamage d before i p f
    ⊎ ((r : Root) × IsVolumeOn d before i p r × IsFirstDamage d (before ++ p ∷ []) (suc i) ps f)

-- ---- the whole

-- how many bytes of a catalogue's record stand before the relationship at a place
abbrev pub relation_start : Catalog → ℕ → ℕ
relation_start k place =
    12 + length (numbers_digits (numbers_of k)) + length (volumes_bytes k.volumes) + length (policies_bytes k.policies) + 4
    + length (flat_map relation_digits (take place k.relations))

-- Of the shape, and of what is refused as long as no transfer is served: a base, a transfer, a quiesced relationship or a
-- vault's policy. The second ends with the commands that make them.
pub record IsShaped (w : Up) : Type 0 where
  pub interim : IsInterim w
  pub shape : ShapeUp w

-- the records, without a test of what they say together
pub record IsReadWorld (d : Disks) (k : Catalog) (roots : List Root) : Type 0 where
  pub catalog : IsCatalogOn d k
  pub volumes : AreVolumesOn d [] 0 k.volumes roots

-- the world that the images spell
pub record Spells (d : Disks) (w : Up) : Type 0 where
  pub catalog : Catalog
  pub roots : List Root
  pub read : IsReadWorld d catalog roots
  pub is : w ≡ world_of d catalog roots
  pub crossed : Crossed (blanked w)
  pub shaped : IsShaped (blanked w)

-- what is wrong with the records together: the first relationship that breaks a rule, or the shape
abbrev pub IsWholeDamage : Disks → Catalog → Up → Damage → Type 0
IsWholeDamage d k w f =
    ((place : ℕ) × IsFirstCrossing (blanked w) place × (f ≡ damage 0 (record_start (d.images 0) + relation_start k place) Cross))
    ⊎ (Crossed (blanked w) × ¬ (IsShaped (blanked w)) × (f ≡ damage 0 0 Shape))

-- the first fault of the records, each by itself
abbrev pub IsReadingDamage : Disks → Damage → Type 0
IsReadingDamage d f =
    IsCatalogDamage d f
    ⊎ ((k : Catalog) × IsCatalogOn d k × IsFirstDamage d [] 0 k.volumes f)

-- the first fault of the images
abbrev pub IsDamage : Disks → Damage → Type 0
IsDamage d f =
    IsCatalogDamage d f
    ⊎ ((k : Catalog) × IsCatalogOn d k × IsFirstDamage d [] 0 k.volumes f)
    ⊎ ((k : Catalog) × (roots : List Root) × IsReadWorld d k roots × IsWholeDamage d k (world_of d k roots) f)
