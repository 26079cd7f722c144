use Rattle.std.proofs.Common.{◌≡◌, ℕ, [], nat_eq, unwrap_or, option_map, take}
use Rattle.std.specs.HashMap.{get}
use Rattle.sm_graph.specs.Walks.{sources_of}
use Rattle.sm_graph.proofs.walking.sources_by_end.Given as goal

abbrev pub invariant-loop-edge : goal.invariant-loop-edge
invariant-loop-edge l = (v : ℕ) → unwrap_or (option_map (λ l. l.items) (get nat_eq l.sources v)) [] ≡ sources_of (take l.edge-index l.edges) v
