-- The volume of the definitions that the maps and the blocks of a disk make.
use Rattle.std.specs.Prelude.{ℕ, List, map}
use Rattle.sm_defs.specs.Image.{Block, Image, tags}
use Rattle.sm_defs.specs.Volume.{Volume, Snapshot}
use Rattle.sm_disk.specs.Image as disk
use Rattle.sm_base.specs.declared.numbers.VolNo.{VolNo}
use Rattle.sm_root.specs.declared.root.Root.{Root}
use Rattle.sm_root.specs.declared.root.RootSnapshot.{RootSnapshot}
use Rattle.volume_store.specs.Held.{bytes_at}
use Rattle.volume_store.specs.Maps.{Maps}

abbrev pub block_of : disk.Image → ℕ → Block
block_of c n = record { tag = n; bytes = bytes_at c n }

abbrev pub image_of : disk.Image → List ℕ → Image
image_of c numbers = map (block_of c) numbers

abbrev pub seen_snapshot : disk.Image → RootSnapshot → Snapshot
seen_snapshot c s = record { ident = s.ident; name = s.name; label = s.label; time = s.time; maker = s.made; image = image_of c s.map }

-- at a path and on a disk of that number, which the volume does not know
abbrev pub volume_of : List ℕ → ℕ → disk.Image → Maps → Volume
volume_of path disk c m = record {
  path = path;
  disk = disk;
  kind = m.root.kind;
  family = m.root.family;
  logical = m.root.logical;
  physical = m.root.physical;
  next = m.root.next;
  active = image_of c m.active;
  stable = image_of c m.root.stable;
  snapshots = map (seen_snapshot c) m.root.snapshots;
}

-- the other way round: what a disk keeps of a volume beside its blocks
abbrev pub kept_snapshot : Snapshot → RootSnapshot
kept_snapshot s = record { ident = s.ident; name = s.name; label = s.label; time = s.time; made = s.maker; map = tags s.image }

abbrev pub root_of : VolNo → Volume → Root
root_of number v = record {
  number = number;
  kind = v.kind;
  family = v.family;
  logical = v.logical;
  physical = v.physical;
  next = v.next;
  stable = tags v.stable;
  snapshots = map kept_snapshot v.snapshots;
}
