-- Volumes and snapshots.
use Rattle.std.specs.Prelude.{ℕ, zero, suc, ◌+◌, ◌-◌, ◌*◌, not, Bool, true, false, List, [], ◌∷◌, map, replicate, Option}
use Rattle.std.specs.List.{list_any, filter, flat_map}
use Rattle.sm_base.specs.declared.numbers.Ident.{Ident}
use Rattle.sm_base.specs.declared.numbers.Kind.{Kind}
use Rattle.sm_base.specs.declared.numbers.Kind.TheVariants.{Rw, Dp}
use Rattle.sm_base.specs.declared.limits.TheConstants.{BLOCKS_START}
use Rattle.sm_defs.specs.Words.{same_ident, after, up_to}
use Rattle.sm_defs.specs.Image.{Image, hole, tags, distinct, stands}

-- what was on a volume when it was taken; the time is in seconds since 1970, the maker a relationship's number, 0 for a client
pub record Snapshot : Type 0 where
  pub ident : Ident
  pub name : List ℕ
  pub label : Option (List ℕ)
  pub time : ℕ
  pub maker : ℕ
  pub image : Image

-- snapshots oldest first; next is the number of the next snapshot that a client takes, from 1;
-- the stable image is the active image of the last consistency point
pub record Volume : Type 0 where
  pub path : List ℕ
  pub disk : ℕ
  pub kind : Kind
  pub family : ℕ
  pub logical : ℕ
  pub physical : ℕ
  pub next : ℕ
  pub active : Image
  pub stable : Image
  pub snapshots : List Snapshot

abbrev pub is_rw : Kind → Bool
is_rw Rw = true
is_rw Dp = false

abbrev pub ident_of : Snapshot → Ident
ident_of s = s.ident

abbrev pub image_of : Snapshot → Image
image_of s = s.image

abbrev pub images_of : Volume → List Image
images_of v = v.active ∷ v.stable ∷ map image_of v.snapshots

abbrev pub tags_of : Volume → List ℕ
tags_of v = flat_map tags (images_of v)

abbrev pub used : Volume → ℕ
used v = distinct (tags_of v)

abbrev pub free : Volume → ℕ
free v = v.physical - used v

-- the n numbers from t on
abbrev pub numbers : ℕ → ℕ → List ℕ
numbers t zero = []
numbers t (suc n) = t ∷ numbers (suc t) n

-- the free numbers in ascending order
abbrev pub free_tags : Volume → List ℕ
free_tags v = filter (λ t. not (stands t (tags_of v))) (numbers 1 v.physical)

abbrev pub idents : List Snapshot → List Ident
idents ss = map ident_of ss

abbrev pub has : List Snapshot → Ident → Bool
has ss i = list_any (λ s. same_ident s.ident i) ss

-- the snapshots after the one of the identity
abbrev pub past : Ident → List Snapshot → List Snapshot
past i ss = after (λ s. same_ident s.ident i) ss

-- the snapshots up to the one of the identity, that one too
abbrev pub until : Ident → List Snapshot → List Snapshot
until i ss = up_to (λ s. same_ident s.ident i) ss

-- how long a disk has to be for so many physical blocks, in bytes
abbrev pub length_needed : ℕ → ℕ
length_needed physical = BLOCKS_START + 4096 * physical

abbrev pub new_volume : List ℕ → ℕ → Kind → ℕ → ℕ → ℕ → Volume
new_volume path disk kind number logical physical = record {
  path = path;
  disk = disk;
  kind = kind;
  family = number;
  logical = logical;
  physical = physical;
  next = 1;
  active = replicate logical hole;
  stable = replicate logical hole;
  snapshots = [];
}

-- what stands where no volume does
abbrev pub no_volume : Volume
no_volume = new_volume [] 0 Dp 0 0 0

-- the same volume without the snapshots that go
abbrev pub without : (Snapshot → Bool) → Volume → Volume
without goes v = record v { snapshots = filter (λ s. not (goes s)) v.snapshots }
