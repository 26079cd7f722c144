-- A node that is down, by slots: the outcome of one disk's commit is not known, and which of its two slots an image of that
-- disk selects tells the world of all images.
use Rattle.std.specs.Prelude.{◌≡◌, ◌⊎◌, ◌-◌, ℕ, zero, suc, ◌<◌, IsTrue, List, length, Option, Some, None, slice_get}
use Rattle.sm_base.specs.declared.numbers.Side.{Side}
use Rattle.sm_base.specs.declared.numbers.Side.TheVariants.{Before, After}
use Rattle.sm_defs.specs.World.{Up}
use Rattle.sm_disk.specs.Image.{Image}
use Rattle.sm_disk.specs.Disk.{DiskState}
use Rattle.sm_seats.specs.Seats.{World, Shown, Left}
use Rattle.sm_slots.specs.Stored.{slot_of}
use Rattle.sm_model.specs.World.{Deed}
use Rattle.sm_model.specs.Opened.{opened}
use Rattle.sm_shape.specs.Blanked.{blanked}
use Rattle.sm_catroot.specs.Catalog.{Catalog}
use Rattle.sm_node.specs.Seats.{Seated, device}
use Rattle.sm_node.specs.Nodes.{Node, world_of}
use Rattle.sm_node.specs.Parts.{devices, part, IsCatalogOf}
use Rattle.sm_node.specs.Pending.{later, world_ahead, OthersDecided, IsLong}

-- the world that a side of a restart finds
abbrev pub world_at : Side → Deed → Up
world_at Before d = d.old
world_at After d = d.new

-- the catalogue is that of the world, on disks of these lengths
abbrev pub IsRecordOf : List ℕ → Catalog → Up → Type 0
IsRecordOf lengths k w = IsCatalogOf k w × (w.disks ≡ lengths)

-- the outcome of the commit at this seat is not known
unfoldable pub IsOpen : {D : Type 0} → Node D → ℕ → Type 0
IsOpen n zero = n.root.after ≡ None → ⊥
IsOpen n (suc i) = (s : Seated _) × (slice_get n.seats i ≡ Some s) × (s.volume.after ≡ None → ⊥)

-- What the restarts since the node is down have found at the seat, of which the slot is that of the world before. Where it
-- is After, its commit is decided.
abbrev pub FoundBy : {A : Type 0} → Side → ℕ → Type 0 → ℕ → Option A → Type 0
FoundBy Before slot told selected after = told → selected ≡ slot
FoundBy After slot told selected after = (after ≡ None) × (told → selected ≡ 1 - slot)

module _ {D : Type 0} (state : D → DiskState) where
  unfoldable pub FoundAt : Side → ℕ → Node D → ℕ → Type 0
  FoundAt side slot n zero = FoundBy side slot (IsTrue (state n.root.disk).told) n.root.selected n.root.after
  FoundAt side slot n (suc i) = (s : Seated D) → slice_get n.seats i ≡ Some s → FoundBy side slot (IsTrue (state (device s)).told) s.volume.selected s.volume.after

  -- one image of each disk that a restart now may leave: the slot that this seat's selects tells what all show
  abbrev pub BySlot : ℕ → ℕ → World → World → List D → Type 0
  BySlot seat slot before after disks = (images : ℕ → Image) → Left state disks images →
      (slot_of (images seat) ≡ slot → Shown (length disks) before images) × (slot_of (images seat) ≡ 1 - slot → Shown (length disks) after images)

  -- The deed is that of the event that failed, and the side is the one that the restarts since then have found.
  pub record IsHalved (d : Deed) (side : Side) (n : Node D) : Type 0 where
    pub seat : ℕ
    pub slot : ℕ
    pub is_seat : seat < length (devices n)
    pub one_of_two : slot < 2
    pub shown : BySlot seat slot (part d.old) (part d.new) (devices n)
    pub decided : OthersDecided seat n
    pub found : FoundAt side slot n seat
    -- a catalogue has no bytes that a disk could tell otherwise, so these outlive a restart that fails
    pub held : IsRecordOf n.lengths n.root.held (world_at side d)
    pub ahead : IsOpen n seat → IsRecordOf n.lengths (later n.root.after n.root.held) d.new
    pub long : IsLong n
    -- whether the disks tell their content or not
    pub bare_now : blanked (opened (world_of n)) ≡ blanked (opened (world_at side d))
    pub bare_ahead : IsOpen n seat → blanked (opened (world_ahead n)) ≡ blanked (opened d.new)

  -- whatever a restart now may leave shows one world of the pair
  abbrev pub ShowsOneOf : Deed → Node D → Type 0
  ShowsOneOf d n = (images : ℕ → Image) → Left state (devices n) images → Shown (length (devices n)) (part d.old) images ⊎ Shown (length (devices n)) (part d.new) images
