use Rattle.std.proofs.Common.{arith}
use Rattle.sm_stream.proofs.Streams.{went_on}
use Rattle.sm_stream.proofs.whole.write_whole.Goals as goal

pub loop-rest-preserved : goal.loop-rest-preserved
loop-rest-preserved g c =
    let i = c.loop-rest.invariant in
    (went_on _ _ _ _ _ c.in_ok-n.n c.in_ok-n.ensures.bound i.0 c.in_ok-n.ensures.added, omega (arith, c.in_ok-n.ensures.cause.later))
