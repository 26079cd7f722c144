use Rattle.std.proofs.Common.{◌≡◌, ◌⊎◌, ◌≤◌, ◌<◌, ℕ, true}
use Rattle.sm_bits.specs.Places.{has}
use Rattle.tests_steps.proofs.beginning.stands_by_snapshots.Given as goal

abbrev pub invariant-loop-number : goal.invariant-loop-number
invariant-loop-number g l = (k : ℕ) → 1 ≤ k → k < l.number → (has l.held k ≡ true) ⊎ (has l.space k ≡ true)
