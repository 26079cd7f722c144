-- A world in which each block has zeros: what opening tests of a world asks for no byte of a block.
use Rattle.std.specs.Prelude.{map}
use Rattle.sm_defs.specs.Image.{Block, Image}
use Rattle.sm_defs.specs.Volume.{Volume, Snapshot}
use Rattle.sm_defs.specs.World.{Up}
use Rattle.sm_shape.specs.Blank.{blank_block}

abbrev pub zeroed : Image → Image
zeroed image = map (λ (b : Block). blank_block b.tag) image

abbrev pub zeroed_snapshot : Snapshot → Snapshot
zeroed_snapshot s = record s { image = zeroed s.image }

abbrev pub zeroed_volume : Volume → Volume
zeroed_volume v = record v { active = zeroed v.active; stable = zeroed v.stable; snapshots = map zeroed_snapshot v.snapshots }

abbrev pub blanked : Up → Up
blanked w = record w { volumes = map zeroed_volume w.volumes }
