-- A node: what its disks hold, and the world that they make.
use Rattle.std.specs.Prelude.{◌≡◌, ℕ, ◌<◌, ◌≤◌, false, true, List, [], ◌∷◌, map, length, Option, None, Some, slice_get}
use Rattle.sm_base.specs.declared.limits.TheConstants.{MOST_VOLUMES}
use Rattle.sm_defs.specs.Volume.{Volume}
use Rattle.sm_defs.specs.Relationship.{Relationship}
use Rattle.sm_defs.specs.World.{Up}
use Rattle.sm_defs.specs.Words.{Among, KeysDiffer}
use Rattle.sm_disk.specs.Disk.{DiskState}
use Rattle.sm_register.specs.Registered.{Registered}
use Rattle.sm_catroot.specs.declared.placed.Placed.{Placed}
use Rattle.sm_catroot.specs.Catalog.{Catalog}
use Rattle.sm_relation.specs.declared.relation.Relation.{Relation}
use Rattle.sm_relation.specs.Shown.{relationship_of}
use Rattle.sm_model.specs.Opened.{rejoined}
use Rattle.sm_volume.specs.Mounted.{Mounted}
use Rattle.sm_node.specs.Seats.{Seated, disk_number, device, AreAtSeats, AllUp}

-- Disk 0 has the register, each volume its own disk; what is left of the disks lies at the places of their numbers. `lengths`
-- has how many bytes each disk has, by its number.
pub record Node (D : Type 0) : Type 0 where
  pub root : Registered D Catalog
  pub seats : List (Seated D)
  pub spares : List (Option D)
  pub lengths : List ℕ

-- ---- the world

-- the volume, at the path and on the disk that the catalogue says
abbrev pub placed : {D : Type 0} → Placed → Mounted D → Volume
placed p m = let v = m.volume in record v { path = p.path; disk = p.disk.0 }

unfoldable pub all_placed : {D : Type 0} → List Placed → List (Seated D) → List Volume
all_placed [] seats = []
all_placed (p ∷ ps) [] = []
all_placed (p ∷ ps) (s ∷ seats) = placed p s.volume ∷ all_placed ps seats

-- no transfer runs: one that stands has landed what its checkpoint says
abbrev pub stopped_relation : Relation → Relationship
stopped_relation r = rejoined (relationship_of [] false r)

abbrev pub world_with : {D : Type 0} → Catalog → List (Seated D) → List ℕ → Up
world_with k seats lengths = record {
  clock = k.clock;
  next_relation = k.next_relation;
  next_transfer = k.next_transfer;
  volumes = all_placed k.volumes seats;
  policies = k.policies;
  relations = map stopped_relation k.relations;
  disks = lengths;
}

abbrev pub world_of : {D : Type 0} → Node D → Up
world_of n = world_with n.root.held n.seats n.lengths

-- ---- what holds of every node

-- the number of the catalogue's disk, and of each volume's
abbrev pub numbers : {D : Type 0} → List (Seated D) → List ℕ
numbers seats = 0 ∷ map disk_number seats

-- each disk has a place of its own, and exactly those that hold nothing are at hand
pub record IsLaidOut {D : Type 0} (seats : List (Seated D)) (spares : List (Option D)) (lengths : List ℕ) : Type 0 where
  pub as_many : length spares ≡ length lengths
  pub apart : KeysDiffer (λ (n : ℕ). n) (numbers seats)
  pub within : (n : ℕ) → Among (numbers seats) n → n < length spares
  pub taken : (n : ℕ) → Among (numbers seats) n → slice_get spares n ≡ Some None
  pub left : (n : ℕ) → slice_get spares n ≡ Some None → Among (numbers seats) n

-- the volumes at these places lie on the disks of these numbers
abbrev pub LieOn : List Placed → List ℕ → Type 0
LieOn places disks = (i : ℕ) (p : Placed) (disk : ℕ) → slice_get places i ≡ Some p → slice_get disks i ≡ Some disk → p.disk.0 ≡ disk

-- each disk is as long as the node has it
pub record AreAsLong {D : Type 0} (state : D → DiskState) (n : Node D) : Type 0 where
  pub root : slice_get n.lengths 0 ≡ Some (state n.root.disk).size
  pub seats : (i : ℕ) (s : Seated D) → slice_get n.seats i ≡ Some s → slice_get n.lengths s.disk ≡ Some (state (device s)).size
  pub spares : (k : ℕ) (x : D) → slice_get n.spares k ≡ Some (Some x) → slice_get n.lengths k ≡ Some (state x).size

pub record IsNode {D : Type 0} (state : D → DiskState) (n : Node D) : Type 0 where
  -- a volume behind those of the catalogue is that of a creation whose commit failed
  pub as_many : length n.root.held.volumes ≤ length n.seats
  pub few : length n.seats ≤ MOST_VOLUMES
  pub seated : AreAtSeats state n.seats
  pub laid_out : IsLaidOut n.seats n.spares n.lengths
  -- also by a catalogue whose commit has an outcome that is not known
  pub placed : LieOn n.root.held.volumes (map disk_number n.seats)
  pub placed_after : (k : Catalog) → n.root.after ≡ Some k → LieOn k.volumes (map disk_number n.seats)
  pub long : AreAsLong state n

-- no call has failed since the node was opened or restarted
pub record IsUp {D : Type 0} (n : Node D) : Type 0 where
  pub root : n.root.up ≡ true
  pub as_many : length n.root.held.volumes ≡ length n.seats
  pub volumes : AllUp n.seats
