use Rattle.std.proofs.Common.{ℕ, ◌<◌}
use Rattle.sm_shape.specs.Blank.{blank}
use Rattle.sm_shape.specs.Crossing.{FitsAt}
use Rattle.sm_shape.proofs.first.first_of.Given as goal

abbrev pub invariant-loop-place : goal.invariant-loop-place
invariant-loop-place l = (j : ℕ) → j < l.place → FitsAt (blank l.world) j
