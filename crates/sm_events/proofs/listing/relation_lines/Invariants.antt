use Rattle.std.proofs.Common.{◌≡◌, [], map, take}
use Rattle.sm_model.specs.OfReport.{relation_line}
use Rattle.sm_node.specs.Nodes.{world_with, stopped_relation}
use Rattle.sm_events.proofs.listing.relation_lines.Given as goal

-- the lines of those before
abbrev pub invariant-loop-relation : goal.invariant-loop-relation
invariant-loop-relation g l = l.lines.items ≡ map (λ r. relation_line (world_with l.catalog l.seats []) (stopped_relation r)) (take l.relation-index l.catalog.relations)
