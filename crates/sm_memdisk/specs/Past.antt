-- What a disk did, the newest call first, and what that lets a restart leave.
use Rattle.std.specs.Prelude.{◌≡◌, ◌⊎◌, ℕ, ◌+◌, ◌-◌, ◌≤◌, nat_lt, Bool, false, not, ◌&&◌, ◌||◌, IsTrue, List, [], ◌∷◌, length, slice_index_or, Option, Some, None, if◌then◌else◌}
use Rattle.sm_disk.specs.Image.{Image}
use Rattle.sm_memdisk.specs.declared.Image.{Image as Choice}
use Rattle.sm_memdisk.specs.declared.Image.TheVariants.{Old, New, Fill}

pub data Deed : Type 0 where
  -- a write: its place, and the bytes that stood there before
  Written : (at : ℕ) (old : List ℕ) → Deed
  Synced : Deed

-- a recorded call, and the restart that followed it, if one did before the next recorded call
pub record Note : Type 0 where
  pub deed : Deed
  pub restart : Option Choice

-- what a restart may leave at a moment
pub record Moment : Type 0 where
  -- what was on the medium after the last sync or restart
  pub base : Image
  -- the places written since then
  pub pending : ℕ → Bool

-- the image with these bytes at this place
abbrev pub over : Image → ℕ → List ℕ → Image
over c at bytes place = if nat_lt place at then c place else slice_index_or bytes (place - at) (c place)

abbrev pub is_within : ℕ → ℕ → ℕ → Bool
is_within at n place = not (nat_lt place at) && nat_lt place (at + n)

-- nothing is pending
abbrev pub settled : Image → Moment
settled c = record { base = c; pending = λ _. false }

-- what a read gave before a call, from what it gives after it
abbrev pub before : Deed → Image → Image
before (Written at old) c = over c at old
before Synced c = c

-- the moment after a call, from the one before it; c is what a read gives after it
abbrev pub after : Deed → Image → Moment → Moment
after (Written at old) c m = record { base = m.base; pending = λ place. m.pending place || is_within at (length old) place }
after Synced c m = settled c

-- the moment after the restart that followed, if one did
abbrev pub after_restart : Option Choice → Image → Moment → Moment
after_restart None c m = m
after_restart (Some choice) c m = settled c

-- this moment, where c is what a read gives
unfoldable pub now_of : List Note → Image → Moment
now_of [] c = settled c
now_of (n ∷ past) c = after_restart n.restart c (after n.deed c (now_of past (before n.deed c)))

-- the moment between a call and the restart that followed, before the earlier ones
abbrev pub with_call : Option Choice → Moment → List Moment → List Moment
with_call None m earlier = earlier
with_call (Some choice) m earlier = m ∷ earlier

-- the moments before this one, the newest first
unfoldable pub earlier_of : List Note → Image → List Moment
earlier_of [] c = []
earlier_of (n ∷ past) c =
    let d = before n.deed c in
    let m = now_of past d in
    with_call n.restart (after n.deed c m) (m ∷ earlier_of past d)

-- a place that was written since the last sync or restart may hold any byte, and every other one stays
abbrev pub MayLeave : Moment → Image → Type 0
MayLeave m c = (place : ℕ) → IsTrue (m.pending place) ⊎ (c place ≡ m.base place)

-- at one of these moments, which are counted from 0 at the oldest, and that one is the t-th or later
abbrev pub LeftSince : List Moment → ℕ → Image → Type 0
LeftSince [] t c = ⊥
LeftSince (m ∷ earlier) t c = ((t ≤ length earlier) × MayLeave m c) ⊎ LeftSince earlier t c

-- the image that a restart leaves, where c is what a read gave
abbrev pub chosen : Choice → Image → Moment → Image
chosen Old c m = m.base
chosen New c m = c
chosen (Fill byte) c m = λ place. if m.pending place then byte else c place
