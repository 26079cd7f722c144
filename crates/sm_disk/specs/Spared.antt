-- Places that a run of calls leaves alone.
use Rattle.std.specs.Prelude.{ℕ}
use Rattle.sm_disk.specs.Image.{Image, SameAt}
use Rattle.sm_disk.specs.Disk.{DiskState, GoesOn}

-- at these places c has what some image of the disk has
abbrev pub IsLike : (ℕ → Type 0) → DiskState → Image → Type 0
IsLike places s c = (d : Image) × s.may_leave d × SameAt places d c

-- The same disk later, after calls that wrote at none of these places: there it reads as before,
-- and each image since the start has there what an image of the start has.
pub record Spares (places : ℕ → Type 0) (old new : DiskState) : Type 0 where
  pub seen : SameAt places old.seen new.seen
  pub images : (c : Image) → new.may_leave c → IsLike places old c
  pub any_moment : GoesOn old new (IsLike places old)

-- what a read gives at these places is on the medium
abbrev pub StandsAt : (ℕ → Type 0) → DiskState → Type 0
StandsAt places s = (c : Image) → s.may_leave c → SameAt places s.seen c
