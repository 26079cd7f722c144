use Rattle.std.proofs.Common.{◌≡◌, false, map, drop}
use Rattle.std.specs.List.{find}
use Rattle.sm_defs.specs.World.{Up}
use Rattle.sm_defs.specs.Edges.{mirror_edges}
use Rattle.sm_defs.specs.Needed.{needed_for}
use Rattle.sm_graph.specs.Links.{edges_of}
use Rattle.sm_node.specs.Nodes.{stopped_relation}
use Rattle.sm_node.proofs.holding.first_holder.Given as goal

-- none of those before needs it
abbrev pub invariant-loop-relation : goal.invariant-loop-relation
invariant-loop-relation l =
    (w : Up) → mirror_edges w ≡ edges_of false l.mirrors
    → find (needed_for w l.volume.0 l.ident) (map stopped_relation l.relations) ≡ find (needed_for w l.volume.0 l.ident) (map stopped_relation (drop l.relation-index l.relations))
