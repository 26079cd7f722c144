-- The world of the records that were read, on disks of these lengths.
use Rattle.std.specs.Prelude.{◌≡◌, ℕ, List, map}
use Rattle.sm_defs.specs.World.{Up}
use Rattle.sm_model.specs.Crossed.{Crossed}
use Rattle.sm_shape.specs.Blanked.{blanked}
use Rattle.sm_opening.specs.OnDisk.{Disks, world_of, IsShaped}
use Rattle.sm_opening.specs.Finding.{ReadRecords, root_of}

abbrev pub world_on : Disks → ReadRecords → Up
world_on d r = world_of d r.catalog.value (map root_of r.founds)

-- whatever the blocks hold, the world is sound but for them
abbrev pub IsSoundOn : List ℕ → ReadRecords → Type 0
IsSoundOn lengths r = (d : Disks) → d.sizes ≡ lengths → Crossed (blanked (world_on d r)) × IsShaped (blanked (world_on d r))
