-- How often the disks of a node have failed, by their numbers.
use Rattle.std.specs.Prelude.{◌≡◌, ◌≤◌, ◌+◌, ◌-◌, ◌^◌, ◌==◌, if◌then◌else◌, ℕ, min, max, Some, slice_get}
use Rattle.sm_base.specs.declared.numbers.DiskNo.{DiskNo}
use Rattle.sm_disk.specs.Disk.{DiskState}
use Rattle.sm_node.specs.Seats.{Seated, device}
use Rattle.sm_node.specs.Nodes.{Node, numbers}

-- these counts, of which that of one disk is at least so much
abbrev pub with_count : (ℕ → ℕ) → ℕ → ℕ → ℕ → ℕ
with_count counts disk count number = if number == disk then max count (counts number) else counts number

-- the disk at each seat keeps its number
abbrev pub KeepsNumbers : {D : Type 0} → Node D → Node D → Type 0
KeepsNumbers old new = (seat number : ℕ) → slice_get (numbers old.seats) seat ≡ Some number → slice_get (numbers new.seats) seat ≡ Some number

module _ {D : Type 0} (state : D → DiskState) where
  -- each disk has failed at least as often as the counts say of its number
  pub record HasCounted (counts : ℕ → ℕ) (n : Node D) : Type 0 where
    pub root : counts 0 ≤ (state n.root.disk).faults
    pub seats : (i : ℕ) (s : Seated D) → slice_get n.seats i ≡ Some s → counts s.disk ≤ (state (device s)).faults
    pub spares : (k : ℕ) (x : D) → slice_get n.spares k ≡ Some (Some x) → counts k ≤ (state x).faults

  -- no disk's count falls: whatever the disks have counted at least, they have still
  abbrev pub CountsStay : Node D → Node D → Type 0
  CountsStay old new = (counts : ℕ → ℕ) → HasCounted counts old → HasCounted counts new

  -- the disk of this number failed: its count has risen, but for a count that stands at its end, and is this one at least
  abbrev pub CountRises : DiskNo → ℕ → Node D → Node D → Type 0
  CountRises disk count old new = (counts : ℕ → ℕ) → HasCounted counts old → (min (counts disk.0 + 1) (2 ^ 64 - 1) ≤ count) × HasCounted (with_count counts disk.0 count) new
