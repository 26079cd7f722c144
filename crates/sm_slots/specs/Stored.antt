-- What the slots of an image spell.
use Rattle.std.specs.Prelude.{◌≡◌, ℕ, ◌+◌, ◌*◌, ◌%◌, ◌≤◌, ◌==◌, nat_le, List, length, take, drop, Bool, false, if◌then◌else◌}
use Rattle.std.specs.Int.{from_be_bytes, w32}
use Rattle.std.specs.List.{list_all}
use Rattle.sm_base.specs.declared.limits.TheConstants.{SLOTS_END}
use Rattle.sm_disk.specs.Image.{Image, part}
use Rattle.sm_slots.specs.declared.layout.TheConstants.{SLOT_LEN}

-- the length of a slot
abbrev pub slot_len : ℕ
slot_len = SLOT_LEN

-- where slot 0 or 1 begins
abbrev pub slot_start : ℕ → ℕ
slot_start slot = 4096 + SLOT_LEN * slot

-- the first place behind the slots
abbrev pub slots_end : ℕ
slots_end = SLOTS_END

-- the number of the selected slot: the low bit of the first byte, whatever the others are
abbrev pub slot_of : Image → ℕ
slot_of c = c 0 % 2

-- only zeros
abbrev pub is_blank : List ℕ → Bool
is_blank bytes = list_all (λ b. b == 0) bytes

-- a record: a magic word of eight bytes that are not all zero, the length of its body in four, the highest first, and the body
pub record IsFramed (bytes : List ℕ) : Type 0 where
  pub magic : is_blank (take 8 bytes) ≡ false
  pub head : 12 ≤ length bytes
  pub body : length bytes ≡ 12 + from_be_bytes w32 (take 4 (drop 8 bytes))

-- what a slot spells: nothing, a record, or a length that passes the slot
pub data Stored : Type 0 where
  Blank : Stored
  Record : List ℕ → Stored
  BadLength : Stored

-- what the slot that begins at a place spells; bytes after the record are not looked at
unfoldable pub stored_at : Image → ℕ → Stored
stored_at c at =
    if is_blank (part c at 8) then Blank else
    let n = 12 + from_be_bytes w32 (part c (at + 8) 4) in
    if nat_le n slot_len then Record (part c at n) else BadLength

-- what the selected slot spells
abbrev pub stored : Image → Stored
stored c = stored_at c (slot_start (slot_of c))
