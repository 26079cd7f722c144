use Rattle.std.proofs.Common.{◌≡◌, map, take}
use Rattle.sm_node.specs.Showing.{listed}
use Rattle.sm_node.proofs.showing.listed_lines.Given as goal

abbrev pub invariant-loop-snapshot : goal.invariant-loop-snapshot
invariant-loop-snapshot l = l.lines.items ≡ map (listed l.number) (take l.snapshot-index l.snapshots)
