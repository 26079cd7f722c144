use Rattle.std.proofs.Common.{◌≡◌, [], take}
use Rattle.sm_defs.specs.Edges.{is_edge}
use Rattle.sm_node.specs.Nodes.{world_with, stopped_relation}
use Rattle.sm_node.proofs.HoldingLemmas.{links_of}
use Rattle.sm_events.proofs.relating.edges.Given as goal

-- the links of those before
abbrev pub invariant-loop-relation : goal.invariant-loop-relation
invariant-loop-relation g l = l.graph ≡ links_of (λ r. is_edge (world_with l.catalog l.seats []) (stopped_relation r)) (take l.relation-index l.catalog.relations)
