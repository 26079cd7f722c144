use Rattle.std.proofs.Common.{◌≡◌, ◌++◌, drop}
use Rattle.sm_model.specs.OfReport.{volume_lines}
use Rattle.sm_node.specs.Nodes.{all_placed}
use Rattle.sm_node.proofs.showing.volume_lines.Given as goal

-- the lines so far, and those of the volumes that are left
abbrev pub invariant-loop-at : goal.invariant-loop-at
invariant-loop-at g l = l.lines.items ++ volume_lines l.at (all_placed (drop l.at l.places) (drop l.at l.seats)) ≡ volume_lines 0 (all_placed l.places l.seats)
