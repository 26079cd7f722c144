-- A restart of a node: the catalogue's disk and then those of the volumes in turn, up to the first that fails.
use Rattle.std.specs.Prelude.{◌≡◌, ℕ, true, IsTrue, List, [], ◌∷◌, ◌++◌, length, Option, Some, None, Result, OnOk, IfErr, slice_get, slice_set}
use Rattle.sm_base.specs.declared.numbers.DiskNo.{DiskNo}
use Rattle.sm_base.specs.declared.numbers.Side.{Side}
use Rattle.sm_disk.specs.Disk.{DiskState, GoesOn, IsSynced, IsCounted}
use Rattle.sm_defs.specs.Volume.{Volume}
use Rattle.sm_shape.specs.Blanked.{zeroed_volume}
use Rattle.sm_volume.specs.Mounted.{Mounted, opened}
use Rattle.sm_volume.specs.Kept.{IsKept}
use Rattle.sm_register.specs.Registered.{Registered}
use Rattle.sm_register.specs.Turned.{of_side, Turns, joined}
use Rattle.sm_catroot.specs.Catalog.{Catalog}
use Rattle.sm_node.specs.Seats.{Seated, device, moved}
use Rattle.sm_node.specs.Nodes.{Node, numbers}
use Rattle.sm_node.specs.Parts.{devices, AllTold}

-- a volume without bytes, as a restart leaves it
abbrev pub at_rest : Volume → Volume
at_rest v = zeroed_volume (opened v)

module _ {D : Type 0} (state : D → DiskState) where
  -- a volume's disk was restarted, with success or not
  pub record VolumeTurns (r : Side) (old new : Mounted D) : Type 0 where
    pub kept : IsKept state new
    pub number : new.number ≡ old.number
    -- no image comes, at any moment
    pub goes : GoesOn (state old.disk) (state new.disk) (state old.disk).may_leave
    pub turns : Turns r (IsTrue (state old.disk).told) old.selected old.after new.selected new.after
    -- whether the disk tells its content or not
    pub volume : (v : Volume) → of_side r old.volume old.after ≡ Some v → at_rest new.volume ≡ at_rest v
    pub after : (v : Volume) → new.after ≡ Some v → (u : Volume) × (old.after ≡ Some u) × (at_rest v ≡ at_rest u)

  -- and so was the catalogue's
  pub record RootTurns (r : Side) (old new : Registered D Catalog) : Type 0 where
    pub goes : GoesOn (state old.disk) (state new.disk) (state old.disk).may_leave
    pub turns : Turns r (IsTrue (state old.disk).told) old.selected old.after new.selected new.after
    pub held : of_side r old.held old.after ≡ Some new.held
    pub after : (k : Catalog) → new.after ≡ Some k → old.after ≡ Some k

  -- it is up again, as the side that was read leaves it
  pub record IsBack (m : Mounted D) : Type 0 where
    pub up : m.up ≡ true
    pub opened : IsTrue (state m.disk).told → m.volume ≡ opened m.volume
    pub bare : zeroed_volume m.volume ≡ at_rest m.volume
    pub synced : IsSynced (state m.disk)

  abbrev pub AllBack : List (Seated D) → Type 0
  AllBack seats = (i : ℕ) (s : Seated D) → slice_get seats i ≡ Some s → IsBack s.volume

  -- some of the volumes' disks were restarted, one after another, and their sides were added to these
  pub data InTurn : List (Seated D) → Side → List (Seated D) → Side → Type 0 where
    none : {seats : List (Seated D)} {s : Side} → InTurn seats s seats s
    more : {olds mids : List (Seated D)} {s t : Side} → InTurn olds s mids t → (r : Side) (at : ℕ) (old : Seated D) (new : Mounted D) → slice_get mids at ≡ Some old → VolumeTurns r old.volume new → InTurn olds s (slice_set mids at (moved old new)) (joined t r)

  -- one of them, at its seat: an error is the disk's number and its count of faults
  pub record SeatTurns (s : Side) (old : Seated D) (result : Result (Unit {0}) (DiskNo × ℕ)) (t : Side) (new : Seated D) : Type 0 where
    pub r : Side
    pub volume : Mounted D
    pub is : new ≡ moved old volume
    pub side : t ≡ joined s r
    pub turns : VolumeTurns r old.volume volume
    pub back : OnOk result (IsBack volume)
    pub counted : IfErr result (λ e. (e.0.0 ≡ old.disk) × IsCounted (state old.volume.disk) (state volume.disk) × (e.1 ≡ (state volume.disk).faults))

  pub record OneTurns (at : ℕ) (s : Side) (olds : List (Seated D)) (result : Result (Unit {0}) (DiskNo × ℕ)) (t : Side) (news : List (Seated D)) : Type 0 where
    pub old : Seated D
    pub new : Seated D
    pub was : slice_get olds at ≡ Some old
    pub is : news ≡ slice_set olds at new
    pub did : SeatTurns s old result t new

  -- the disk of a volume failed: its number, and its count of faults
  pub record VolumeFailed (olds : List (Seated D)) (disk : DiskNo) (count : ℕ) (news : List (Seated D)) : Type 0 where
    pub at : ℕ
    pub old : Seated D
    pub new : Mounted D
    pub was : slice_get olds at ≡ Some old
    pub is : slice_get news at ≡ Some (moved old new)
    pub named : disk.0 ≡ old.disk
    pub counted : IsCounted (state old.volume.disk) (state new.disk)
    pub counts : count ≡ (state new.disk).faults

  -- a disk that holds nothing stays where it is, and was restarted or left alone
  abbrev pub SpareTurns : Option D → Option D → Type 0
  SpareTurns None None = Unit {0}
  SpareTurns (Some x) (Some y) = GoesOn (state x) (state y) (state x).may_leave
  SpareTurns _ _ = ⊥

  pub record SparesTurn (olds news : List (Option D)) : Type 0 where
    pub as_long : length news ≡ length olds
    pub each : (i : ℕ) (x y : Option D) → slice_get olds i ≡ Some x → slice_get news i ≡ Some y → SpareTurns x y

  pub record NodeTurns (old : Node D) (s : Side) (new : Node D) (t : Side) : Type 0 where
    pub r : Side
    pub root : RootTurns r old.root new.root
    pub volumes : InTurn old.seats (joined s r) new.seats t
    pub spares : SparesTurn old.spares new.spares
    pub lengths : new.lengths ≡ old.lengths

  -- each disk tells its content
  abbrev pub AllDisksTold : Node D → Type 0
  AllDisksTold n = IsTrue (state n.root.disk).told × AllTold state n.seats

  -- nothing that was written is pending on these disks: each image of now is what a read gives
  abbrev pub SparesSynced : List (Option D) → Type 0
  SparesSynced spares = (k : ℕ) (x : D) → slice_get spares k ≡ Some (Some x) → IsSynced (state x)

  pub record AllSynced (n : Node D) : Type 0 where
    pub root : IsSynced (state n.root.disk)
    pub seats : (i : ℕ) (s : Seated D) → slice_get n.seats i ≡ Some s → IsSynced (state (device s))
    pub spares : SparesSynced n.spares

  -- all went well
  pub record AllAreBack (n : Node D) : Type 0 where
    pub root : n.root.up ≡ true
    pub volumes : AllBack n.seats
    pub synced : AllSynced n

  -- the disk at a seat failed: its number, and its count of faults
  pub record SeatFailed (old : Node D) (disk : DiskNo) (count : ℕ) (new : Node D) : Type 0 where
    pub seat : ℕ
    pub named : slice_get (numbers old.seats) seat ≡ Some disk.0
    pub was : D
    pub now : D
    pub before : slice_get (devices old) seat ≡ Some was
    pub after : slice_get (devices new) seat ≡ Some now
    pub counted : IsCounted (state was) (state now)
    pub counts : count ≡ (state now).faults

-- the last volume is taken off, and this is its disk, by its number
pub record TakesLast {D : Type 0} (olds : List (Seated D)) (disk : DiskNo) (found : D) (news : List (Seated D)) : Type 0 where
  pub last : Seated D
  pub is : olds ≡ news ++ last ∷ []
  pub named : disk.0 ≡ last.disk
  pub found_is : found ≡ device last

-- The volume behind those of the catalogue is taken off, and its disk holds nothing again.
pub data IsTrimmed {D : Type 0} : Node D → Node D → Type 0 where
  whole : {n : Node D} → length n.seats ≡ length n.root.held.volumes → IsTrimmed n n
  cut : {n : Node D} (front : List (Seated D)) (last : Seated D) → n.seats ≡ front ++ last ∷ [] → length front ≡ length n.root.held.volumes
      → IsTrimmed n (record n { seats = front; spares = slice_set n.spares last.disk (Some (device last)) })

-- all disks of a node were restarted, and it is as they then say
pub record RestartsAll {D : Type 0} (state : D → DiskState) (old : Node D) (s : Side) (new : Node D) (t : Side) : Type 0 where
  pub turned : Node D
  pub turns : NodeTurns state old s turned t
  pub back : AllAreBack state turned
  pub trims : IsTrimmed turned new
