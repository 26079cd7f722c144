-- What a disk means, and what its calls do to that.
use Rattle.std.specs.Prelude.{◌≡◌, ◌⊎◌, ℕ, ◌+◌, ◌-◌, ◌^◌, ◌≤◌, min, Bool, IsTrue}
use Rattle.sm_disk.specs.Image.{Image, SameOutside}

-- Where `told` is false nothing is told of the content, and no image is known.
pub record DiskState : Type 1 where
  -- the length in bytes
  pub size : ℕ
  -- whether the disk tells its content
  pub told : Bool
  -- what a read gives
  pub seen : Image
  -- what a restart at this moment may leave
  pub may_leave : Image → Type 0
  -- a number that doesn't fall
  pub moment : ℕ
  -- what a restart at some moment from that one on might have left
  pub left_since : ℕ → Image → Type 0
  -- how often the disk has failed
  pub faults : ℕ
  -- this moment is one of those since an earlier one
  pub counts_now : (t : ℕ) (c : Image) → t ≤ moment → may_leave c → left_since t c
  -- since this moment there is no other
  pub only_now : (c : Image) → left_since moment c → may_leave c
  -- what was left since a moment was left since each earlier one
  pub since_earlier : (t u : ℕ) (c : Image) → t ≤ u → left_since u c → left_since t c
  -- an image is known only where the content is told
  pub only_told : (t : ℕ) (c : Image) → left_since t c → IsTrue told
  -- all that was written may be on the medium
  pub seen_may_stay : IsTrue told → may_leave seen

-- The same disk, now or later, where a restart meanwhile left what it might have left at the start, or P.
pub record GoesOn (old new : DiskState) (P : Image → Type 0) : Type 0 where
  pub size : new.size ≡ old.size
  pub told : new.told ≡ old.told
  pub faults : old.faults ≤ new.faults
  pub later : old.moment ≤ new.moment
  pub keeps : (t : ℕ) (c : Image) → t ≤ old.moment → old.left_since t c → new.left_since t c
  pub nothing_else : (t : ℕ) (c : Image) → t ≤ old.moment → new.left_since t c → old.left_since t c ⊎ P c

-- one call of the device
abbrev pub Steps : DiskState → DiskState → Type 0
Steps old new = GoesOn old new new.may_leave

-- a call, or a run of calls, that changes neither what a read gives nor what a restart may leave
pub record IsQuiet (old new : DiskState) : Type 0 where
  pub seen : new.seen ≡ old.seen
  pub no_more : (c : Image) → new.may_leave c → old.may_leave c
  pub no_less : (c : Image) → old.may_leave c → new.may_leave c

-- each image of now is what a read gives
abbrev pub IsSynced : DiskState → Type 0
IsSynced s = (c : Image) → s.may_leave c → c ≡ s.seen

-- n bytes from a place on were written over, and nothing else
pub record Wrote (old : DiskState) (at n : ℕ) (new : DiskState) : Type 0 where
  pub seen : SameOutside at n old.seen new.seen
  pub images : (c : Image) → new.may_leave c → (d : Image) × old.may_leave d × SameOutside at n d c

-- n bytes from a place on may hold any bytes after a restart
abbrev pub MayHoldAny : DiskState → ℕ → ℕ → DiskState → Type 0
MayHoldAny old at n new = (c d : Image) → old.may_leave d → SameOutside at n d c → new.may_leave c

-- a failure is counted, but for a count that stands at its end
abbrev pub IsCounted : DiskState → DiskState → Type 0
IsCounted old new = min (old.faults + 1) (2 ^ 64 - 1) ≤ new.faults
