-- The log of a disk, and how its pending writes are taken back.
use Rattle.std.specs.Prelude.{◌≡◌, ℕ, ◌+◌, ◌^◌, ◌<◌, ◌≤◌, List, [], ◌∷◌, length, take, drop, reverse, Option, Some, None, replicate, All}
use Rattle.sm_disk.specs.Image.{Image, part}
use Rattle.sm_memdisk.specs.declared.log.Deed.{Deed as Done}
use Rattle.sm_memdisk.specs.declared.log.Deed.TheVariants.{Write, Sync}
use Rattle.sm_memdisk.specs.declared.Image.{Image as Choice}
use Rattle.sm_memdisk.specs.declared.Image.TheVariants.{Old, New, Fill}
use Rattle.sm_memdisk.specs.Past.{Deed, Written, Synced, Note, over, before}
use Rattle.sm_memdisk.specs.Pages.{Pages, IsTouched, image_of}

abbrev pub deed_of : Done → Deed
deed_of (Write undo) = Written undo.at undo.old.items
deed_of Sync = Synced

-- a write within the disk, whose pages stand
abbrev pub IsUndoable : ℕ → Pages → Deed → Type 0
IsUndoable size pages (Written at old) = (at + length old ≤ size) × IsTouched pages at (length old)
IsUndoable size pages Synced = ⊥

-- a write that no sync and no restart has followed
pub record IsPending (size : ℕ) (pages : Pages) (n : Note) : Type 0 where
  pub no_restart : n.restart ≡ None
  pub undoable : IsUndoable size pages n.deed

-- after these calls, the newest first, nothing is pending
abbrev pub EndsSettled : List Note → Type 0
EndsSettled [] = Unit {0}
EndsSettled (n ∷ past) = IsEnd n.restart n.deed
  where
    IsEnd : Option Choice → Deed → Type 0
    IsEnd (Some choice) deed = Unit {0}
    IsEnd None Synced = Unit {0}
    IsEnd None (Written at old) = ⊥

-- the image before these writes, the oldest first
abbrev pub undone : List Note → Image → Image
undone [] c = c
undone (n ∷ notes) c = before n.deed (undone notes c)

-- the image with a byte in the range of a write
abbrev pub fill_one : Deed → ℕ → Image → Image
fill_one (Written at old) byte c = over c at (replicate (length old) byte)
fill_one Synced byte c = c

-- the image with a byte in each range of these writes
abbrev pub filled : List Note → ℕ → Image → Image
filled [] byte c = c
filled (n ∷ notes) byte c = fill_one n.deed byte (filled notes byte c)

-- the image with what is chosen in each range
abbrev pub chosen_image : Choice → List Note → Image → Image
chosen_image Old notes c = undone notes c
chosen_image New notes c = c
chosen_image (Fill byte) notes c = filled notes byte c

-- the first calls of the log are settled, and the others are pending writes
pub record IsStore (size : ℕ) (pages : Pages) (log : List Note) (settled : ℕ) : Type 0 where
  pub bounded : size < 2 ^ 64
  pub within : settled ≤ length log
  pub ends : EndsSettled (reverse (take settled log))
  pub pending : All (IsPending size pages) (drop settled log)

-- a write of n bytes, still to be made
pub record IsReady (pages : Pages) (at n : ℕ) (note : Note) : Type 0 where
  pub deed : note.deed ≡ Written at (part (image_of pages) at n)
  pub no_restart : note.restart ≡ None
  pub touched : IsTouched pages at n
