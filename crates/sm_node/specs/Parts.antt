-- What the disks of a node are to show of a world, by their seats: seat 0 is the catalogue's disk, seat i + 1 that of volume
-- i. It speaks of the world as a restart leaves it: what is lost in a restart is on no image.
use Rattle.std.specs.Prelude.{◌≡◌, ℕ, zero, suc, List, ◌∷◌, map, Some, IsTrue, slice_get}
use Rattle.sm_defs.specs.Volume.{Volume}
use Rattle.sm_defs.specs.World.{Up}
use Rattle.sm_disk.specs.Image.{Image}
use Rattle.sm_disk.specs.Disk.{DiskState}
use Rattle.sm_slots.specs.Stored.{stored}
use Rattle.sm_model.specs.Answers.{volno}
use Rattle.sm_model.specs.Opened.{opened}
use Rattle.sm_catroot.specs.declared.placed.Placed.{Placed}
use Rattle.sm_catroot.specs.Catalog.{Catalog}
use Rattle.sm_catroot.specs.Condition.{IsCatalog}
use Rattle.sm_catroot.specs.Kept.{ShowsCatalog}
use Rattle.sm_register.specs.Registered.{IsKept}
use Rattle.sm_seats.specs.Moves.{OneChangesWhole, OneIsAddedWhole, NothingChanges}
use Rattle.sm_volume.specs.Shown.{Shows}
use Rattle.sm_node.specs.Seats.{Seated, device}
use Rattle.sm_node.specs.Nodes.{Node, stopped_relation, IsNode, IsUp}

-- the disks by their seats
abbrev pub devices : {D : Type 0} → Node D → List D
devices n = n.root.disk ∷ map device n.seats

-- each disk of a volume tells its content
abbrev pub AllTold : {D : Type 0} → (D → DiskState) → List (Seated D) → Type 0
AllTold state seats = (i : ℕ) (s : Seated _) → slice_get seats i ≡ Some s → IsTrue (state (device s)).told

-- where the volume lies
abbrev pub place_of : Volume → Placed
place_of v = record { path = v.path; disk = record { 0 = v.disk } }

-- the catalogue is that of the world: what is no volume's own is what it says, with no transfer running
pub record IsCatalogOf (k : Catalog) (w : Up) : Type 0 where
  pub clock : k.clock ≡ w.clock
  pub next_relation : k.next_relation ≡ w.next_relation
  pub next_transfer : k.next_transfer ≡ w.next_transfer
  pub volumes : k.volumes ≡ map place_of w.volumes
  pub policies : k.policies ≡ w.policies
  pub relations : map stopped_relation k.relations ≡ (opened w).relations

-- the image shows a catalogue of the world
pub record ShowsCatalogOf (w : Up) (c : Image) : Type 0 where
  pub catalog : Catalog
  pub shown : ShowsCatalog catalog (stored c)
  pub is : IsCatalogOf catalog w

-- the image shows the volume at this place, if there is one
abbrev pub ShowsVolumeAt : Up → ℕ → Image → Type 0
ShowsVolumeAt w i c = (v : Volume) → slice_get w.volumes i ≡ Some v → Shows (volno i) v c

-- what an image of the disk at a seat is to show
unfoldable pub part : Up → ℕ → Image → Type 0
part w zero c = ShowsCatalogOf w c
part w (suc i) c = ShowsVolumeAt w i c

-- a node that is up, with what holds of it, and of what its disks show together through an event
pub record StandsUp {D : Type 0} (state : D → DiskState) (n : Node D) : Type 0 where
  pub root : IsKept state IsCatalog ShowsCatalog n.root
  pub node : IsNode state n
  pub up : IsUp n
  pub one_changes : OneChangesWhole state part
  pub one_is_added : OneIsAddedWhole state part
  pub nothing_changes : NothingChanges state part
