-- The world that a catalogue and roots spell, where each block has zeros and nothing of a transfer has landed: the same
-- for all images of the disks.
use Rattle.std.specs.Prelude.{ℕ, false, List, [], ◌∷◌, map, Some}
use Rattle.std.specs.Option.{option_map}
use Rattle.sm_base.specs.declared.refusal.Reason.TheVariants.{Restart}
use Rattle.sm_defs.specs.Volume.{Volume, Snapshot}
use Rattle.sm_defs.specs.Relationship.{Relationship, Transfer}
use Rattle.sm_defs.specs.World.{Up}
use Rattle.sm_root.specs.declared.root.Root.{Root}
use Rattle.sm_root.specs.declared.root.RootSnapshot.{RootSnapshot}
use Rattle.sm_relation.specs.declared.relation.Relation.{Relation}
use Rattle.sm_relation.specs.declared.relation.Standing.{Standing}
use Rattle.sm_catroot.specs.declared.placed.Placed.{Placed}
use Rattle.sm_catroot.specs.Catalog.{Catalog}
use Rattle.sm_shape.specs.Blank.{blank_image}

abbrev pub bare_snapshot : RootSnapshot → Snapshot
bare_snapshot s = record { ident = s.ident; name = s.name; label = s.label; time = s.time; maker = s.made; image = blank_image s.map }

abbrev pub bare_volume : Placed → Root → Volume
bare_volume p r = record {
  path = p.path;
  disk = p.disk.0;
  kind = r.kind;
  family = r.family;
  logical = r.logical;
  physical = r.physical;
  next = r.next;
  active = blank_image r.stable;
  stable = blank_image r.stable;
  snapshots = map bare_snapshot r.snapshots;
}

abbrev pub bare_volumes : List Placed → List Root → List Volume
bare_volumes (p ∷ ps) (r ∷ rs) = bare_volume p r ∷ bare_volumes ps rs
bare_volumes ps rs = []

abbrev pub bare_transfer : Standing → Transfer
bare_transfer t = record {
  number = t.number;
  kind = t.kind;
  reserved = t.reserved;
  checkpoint = t.checkpoint;
  legs = t.legs;
  stopped = Some Restart;
  landed = [];
  pruned = false;
}

abbrev pub bare_relation : Relation → Relationship
bare_relation r = record {
  number = r.number.0;
  source = r.source.0;
  destination = r.destination.0;
  policy = r.policy;
  source_half = r.source_half;
  destination_half = r.destination_half;
  quiesced = r.quiesced;
  base = r.base;
  transfer = option_map bare_transfer r.transfer;
}

-- on disks of these lengths, in bytes
abbrev pub bare_world : List ℕ → Catalog → List Root → Up
bare_world sizes k roots = record {
  clock = k.clock;
  next_relation = k.next_relation;
  next_transfer = k.next_transfer;
  volumes = bare_volumes k.volumes roots;
  policies = k.policies;
  relations = map bare_relation k.relations;
  disks = sizes;
}
