use Rattle.std.proofs.Common.{◌≡◌, ◌≤◌, ◌==◌, ℕ, false}
use Rattle.std.specs.List.{list_any}
use Rattle.tests_decisions.proofs.tests.ladder.Given as goal

abbrev pub invariant-loop-number : goal.invariant-loop-number
invariant-loop-number l = (n : ℕ) → l.number ≤ n → list_any (λ l. l.number == n) l.graph ≡ false
