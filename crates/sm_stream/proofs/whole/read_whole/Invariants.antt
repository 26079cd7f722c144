use Rattle.std.proofs.Common.{◌≡◌, ◌≤◌, ◌+◌, ◌-◌, vec_len}
use Rattle.std.specs.Io.KnownBytes.{prepend_known}
use Rattle.sm_stream.proofs.whole.read_whole.Given as goal

abbrev pub invariant-loop-piece : goal.invariant-loop-piece
invariant-loop-piece g l =
    (g.S.Source.left l.fn.source ≡ prepend_known l.bytes.items (g.S.Source.left l.source)) ×
    (vec_len l.bytes ≤ l.limit + 1) ×
    (g.S.Source.fault_count l.fn.source ≤ g.S.Source.fault_count l.source)

abbrev pub decreases-loop-piece : goal.decreases-loop-piece
decreases-loop-piece g l = (l.limit + 1) - vec_len l.bytes
