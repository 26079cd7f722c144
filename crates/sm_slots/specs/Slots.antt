-- What the images of a disk with slots select, and what a commit makes of that.
use Rattle.std.specs.Prelude.{◌≡◌, ◌⊎◌, ℕ, ◌-◌, ◌<◌, ◌≤◌, List, Vec, IsTrue, Option, Some, None}
use Rattle.std.specs.declared.alloc.Global.{Global}
use Rattle.sm_disk.specs.Image.{Image, SameAt}
use Rattle.sm_disk.specs.Disk.{DiskState, IsSynced}
use Rattle.sm_disk.specs.Spared.{IsLike}
use Rattle.sm_slots.specs.Stored.{Stored, Blank, Record, slot_of, slots_end, stored}

-- the places of the selector and the slots
abbrev pub AtSlots : ℕ → Type 0
AtSlots place = place < slots_end

-- the places behind the slots
abbrev pub BehindSlots : ℕ → Type 0
BehindSlots place = slots_end ≤ place

-- the image selects the slot of this number, and it spells this
pub record Selects (c : Image) (number : ℕ) (spelled : Stored) : Type 0 where
  pub slot : slot_of c ≡ number
  pub stored : stored c ≡ spelled

-- each image of now selects the slot that a read selects, and it spells the same
abbrev pub SelectsOne : DiskState → Type 0
SelectsOne s = (c : Image) → s.may_leave c → Selects c (slot_of s.seen) (stored s.seen)

-- the slot of this number is the selected one, on the medium too
pub record IsSettled (s : DiskState) (number : ℕ) : Type 0 where
  pub selected : IsTrue s.told → number ≡ slot_of s.seen
  pub images : SelectsOne s

-- the record is the selected one, in the slot of this number, and all that is read is on the medium
pub record IsCommitted (old new : DiskState) (number : ℕ) (bytes : List ℕ) : Type 0 where
  pub selects : IsTrue old.told → Selects new.seen number (Record bytes)
  pub synced : IsSynced new

-- the old record is selected, and behind the slots stands what a restart might have left there at the start
pub record IsBefore (old : DiskState) (number : ℕ) (c : Image) : Type 0 where
  pub selects : Selects c number (stored old.seen)
  pub behind : IsLike BehindSlots old c

-- the new record is selected, and behind the slots stands what was read there at the start
pub record IsAfter (old : DiskState) (number : ℕ) (bytes : List ℕ) (c : Image) : Type 0 where
  pub selects : Selects c (1 - number) (Record bytes)
  pub behind : SameAt BehindSlots old.seen c

-- An image during or after a commit, where the slot of this number was the selected one. The number of the slot that
-- the image selects tells which of the two it is.
abbrev pub IsBeforeOrAfter : DiskState → ℕ → List ℕ → Image → Type 0
IsBeforeOrAfter old number bytes c = IsBefore old number c ⊎ IsAfter old number bytes c

-- what a slot spells that reads as this
abbrev pub stored_of : Option (Vec ℕ Global) → Stored
stored_of None = Blank
stored_of (Some bytes) = Record bytes.items

-- the answer comes exactly where its cause holds, but for another answer that goes before it
pub record ComesWhere (answer cause other : Type 0) : Type 0 where
  pub only : answer → cause
  pub always : cause → answer ⊎ other
