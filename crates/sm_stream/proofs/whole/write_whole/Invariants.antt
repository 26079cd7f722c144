use Rattle.std.proofs.Common.{◌≤◌, length}
use Rattle.sm_stream.specs.Whole.{GotAllBut}
use Rattle.sm_stream.proofs.whole.write_whole.Given as goal

abbrev pub invariant-loop-rest : goal.invariant-loop-rest
invariant-loop-rest g l =
    GotAllBut (g.W.Sink.held l.fn.sink) (g.W.Sink.held l.sink) l.bytes l.rest ×
    (g.W.Sink.fault_count l.fn.sink ≤ g.W.Sink.fault_count l.sink)

abbrev pub decreases-loop-rest : goal.decreases-loop-rest
decreases-loop-rest g l = length l.rest
