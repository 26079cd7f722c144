use Rattle.std.proofs.Common.{take}
use Rattle.sm_graph.specs.Links.{IsIncoming}
use Rattle.sm_graph.proofs.graph.lowest_to.Given as goal

abbrev pub invariant-loop-link : goal.invariant-loop-link
invariant-loop-link l = IsIncoming (take l.link-index l.links) l.volume.0 l.lowest
