-- What the fields of a catalogue stand for.
use Rattle.std.specs.Prelude.{◌≡◌, List, Option, Some, None}
use Rattle.sm_base.specs.declared.limits.TheConstants.{MOST_ENTRIES}
use Rattle.sm_base.specs.declared.numbers.Side.{Side}
use Rattle.sm_disk.specs.Disk.{DiskState}
use Rattle.sm_model.specs.declared.reply.Entry.{Entry}
use Rattle.sm_model.specs.Sound.{SoundUp}
use Rattle.sm_model.specs.World.{World, up, down, Deed}
use Rattle.sm_shape.specs.Blanked.{blanked}
use Rattle.sm_history.specs.Log.{Log}
use Rattle.sm_node.specs.Nodes.{Node, world_of, IsUp}
use Rattle.sm_node.specs.Halved.{IsHalved}
use Rattle.sm_core.specs.Deeds.{deed_of}
use Rattle.sm_core.specs.Kept.{Kept}
use Rattle.sm_core.specs.declared.down.Down.{Down}

-- the deed that the event would have been in which the disk failed
abbrev pub deed_now : {D : Type 0} → Down D → Deed
deed_now d = deed_of (world_of d.node.value) d.actor d.event.value

-- the world of the node; or, while it is down, the one before that event and the one after it
abbrev pub world_now : {D : Type 0} → Option (Down D) → Node D → World
world_now None node = up (world_of node)
world_now (Some d) node = down d.disk.0 (deed_now d)

-- what contracts see of a catalogue
abbrev pub kept_of : {D : Type 0} → Option (Down D) → Node D → List Entry → List Side → Kept D
kept_of since node entries sides = record { world = world_now since node; history = entries; sides = sides; node = node }

-- While it is up nothing has failed; else at most one commit is left open, and its slot tells the world of the pair.
abbrev pub IsCatalogue : {D : Type 0} → (D → DiskState) → Option (Down D) → Node D → Type 0
IsCatalogue state None node = IsUp node
IsCatalogue state (Some d) node = IsHalved state (deed_now d) d.side node

-- both worlds of a pair are sound, but for the bytes of blocks
abbrev pub IsSoundPair : Deed → Type 0
IsSoundPair d = SoundUp (blanked d.old) × SoundUp (blanked d.new)

-- The world is sound with each block's bytes zeros: disks may tell nothing of the bytes.
abbrev pub IsSoundNow : {D : Type 0} → Option (Down D) → Node D → Type 0
IsSoundNow None node = SoundUp (blanked (world_of node))
IsSoundNow (Some d) node = IsSoundPair (deed_now d)

-- of every catalogue
pub record IsWhole {D : Type 0} (state : D → DiskState) (since : Option (Down D)) (node : Node D) (log : Log) : Type 0 where
  pub stands : IsCatalogue state since node
  pub sound : IsSoundNow since node
  pub limit : log.limit ≡ MOST_ENTRIES
