-- A catalogue: a world that is up or down, with its history, and its disks.
use Rattle.std.specs.Prelude.{◌⊎◌, ℕ, List, length, slice_get, unwrap_or}
use Rattle.sm_base.specs.declared.numbers.Side.{Side}
use Rattle.sm_disk.specs.Image.{Image}
use Rattle.sm_disk.specs.Disk.{DiskState}
use Rattle.sm_seats.specs.Seats.{Left, Shown}
use Rattle.sm_model.specs.declared.reply.Entry.{Entry}
use Rattle.sm_model.specs.World.{World, up, down}
use Rattle.sm_node.specs.Nodes.{Node}
use Rattle.sm_node.specs.Parts.{devices, part}

pub record Kept (D : Type 0) : Type 0 where
  pub world : World
  pub history : List Entry
  -- which side each restart that answered that it is done has found
  pub sides : List Side
  pub node : Node D

-- the images, one for each seat, show the world, or one of the pair
abbrev pub ShownIn : World → ℕ → (ℕ → Image) → Type 0
ShownIn (up w) count images = Shown count (part w) images
ShownIn (down disk d) count images = Shown count (part d.old) images ⊎ Shown count (part d.new) images

-- the number of the disk of a seat
abbrev pub number_at : List ℕ → ℕ → ℕ
number_at numbers seat = unwrap_or (slice_get numbers seat) 0

module _ {D : Type 0} (state : D → DiskState) where
  -- whatever a restart leaves now of the disks, by seats, shows the world, or one of the pair
  abbrev pub Stands : World → Node D → Type 0
  Stands w n = (images : ℕ → Image) → Left state (devices n) images → ShownIn w (length (devices n)) images

  -- the same of disks by their numbers, where those of the seats are these
  abbrev pub StandsAt : World → List ℕ → List D → Type 0
  StandsAt w numbers disks = (images : ℕ → Image) → Left state disks images → ShownIn w (length numbers) (λ seat. images (number_at numbers seat))
