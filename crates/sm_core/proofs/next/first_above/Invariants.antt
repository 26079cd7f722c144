use Rattle.std.proofs.Common.{◌≡◌, ℕ, ◌<◌, ◌≤◌, map, Some}
use Rattle.std.specs.Prelude.{slice_get}
use Rattle.sm_catroot.specs.Condition.{number_of}
use Rattle.sm_core.proofs.next.first_above.Given as goal

abbrev pub invariant-loop-relation : goal.invariant-loop-relation
invariant-loop-relation l = (j m : ℕ) → j < l.relation-index → slice_get (map number_of l.relations) j ≡ Some m → m ≤ l.after
