use Rattle.std.proofs.Common.{◌≡◌, nat_eq}
use Rattle.indexmap.specs.IndexSet.{IsUnique}
use Rattle.sm_graph.specs.Walks.{found_after}
use Rattle.sm_graph.proofs.walking.all_upstream.Given as goal

abbrev pub invariant-loop-at : goal.invariant-loop-at
invariant-loop-at l = (l.found.keys ≡ found_after l.edges l.to l.at) × IsUnique nat_eq l.found
