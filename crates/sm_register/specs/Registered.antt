-- A value beside its disk.
use Rattle.std.specs.Prelude.{◌≡◌, ◌⊎◌, ℕ, ◌-◌, ◌<◌, ◌≤◌, true, Bool, List, length, Option, Some, None, IfSome}
use Rattle.sm_disk.specs.Image.{Image}
use Rattle.sm_disk.specs.Disk.{DiskState}
use Rattle.sm_slots.specs.Stored.{Stored, Record, IsFramed, slot_len, slot_of, slots_end, stored}
use Rattle.sm_slots.specs.Slots.{IsSettled}

-- The disk has two slots, of which one is selected; while the outcome of a commit is not known, `after` is the value that it
-- was to select.
pub record Registered (D R : Type 0) : Type 0 where
  pub disk : D
  -- the number of the slot that is selected
  pub selected : ℕ
  pub held : R
  pub after : Option R
  pub up : Bool

abbrev pub registered : {D R : Type 0} → D → ℕ → R → Option R → Bool → Registered D R
registered disk selected held after up = record { disk = disk; selected = selected; held = held; after = after; up = up }

module _ {R : Type 0} (shows : R → Stored → Type 0) where
  -- the image selects the slot of this number, and that shows the value
  pub record SelectsValue (number : ℕ) (r : R) (c : Image) : Type 0 where
    pub slot : slot_of c ≡ number
    pub shown : shows r (stored c)

  abbrev pub SelectsAfter : ℕ → Option R → Image → Type 0
  SelectsAfter number None c = ⊥
  SelectsAfter number (Some r) c = SelectsValue (1 - number) r c

module _ {D R : Type 0} (state : D → DiskState) (fits : R → Type 0) (shows : R → Stored → Type 0) where
  -- the value as it is selected, or that of a commit whose outcome is not known
  abbrev pub SelectsEither : Registered D R → Image → Type 0
  SelectsEither v c = SelectsValue shows v.selected v.held c ⊎ SelectsAfter shows v.selected v.after c

  pub record IsKept (v : Registered D R) : Type 0 where
    pub room : slots_end ≤ (state v.disk).size
    pub one_of_two : v.selected < 2
    pub fit : fits v.held
    pub fit_after : IfSome v.after fits
    pub decided : v.up ≡ true → v.after ≡ None
    pub left : (c : Image) → (state v.disk).may_leave c → SelectsEither v c

  pub record IsRegistered (v : Registered D R) : Type 0 where
    pub kept : IsKept v
    pub settled : v.up ≡ true → IsSettled (state v.disk) v.selected

-- the bytes spell the value, and fit a slot
pub record IsReady {R : Type 0} (fits : R → Type 0) (shows : R → Stored → Type 0) (r : R) (bytes : List ℕ) : Type 0 where
  pub fit : fits r
  pub shown : shows r (Record bytes)
  pub framed : IsFramed bytes
  pub short : length bytes ≤ slot_len
