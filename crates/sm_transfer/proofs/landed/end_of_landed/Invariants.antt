use Rattle.std.proofs.Common.{◌≡◌, ℕ, ◌<◌, true}
use Rattle.sm_bits.specs.Places.{has}
use Rattle.sm_transfer.proofs.landed.end_of_landed.Given as goal

abbrev pub invariant-loop-index : goal.invariant-loop-index
invariant-loop-index l = (k : ℕ) → k < l.index → has l.marks k ≡ true
