use Rattle.std.proofs.Common.{arith, ◌≤◌, ◌+◌, length}
use Rattle.std.proofs.lemmas.Grind.{common_steps}
use Rattle.sm_stream.proofs.Streams.{came_on}
use Rattle.sm_stream.proofs.whole.read_whole.Goals as goal

pub returns-in_err-extend_from_slice-clause-taken : goal.returns-in_err-extend_from_slice-clause-taken
returns-in_err-extend_from_slice-clause-taken g c =
    let fits : length c.loop-piece.bytes.items + c.in_ok-n.n ≤ c.args.limit + 1 = grind (arith, common_steps, c.in_ok-n.ensures.bound, c.read.auto.into) in
    came_on _ _ _ _ _ c.in_ok-n.n (c.args.limit + 1) fits c.loop-piece.invariant.0 c.in_ok-n.ensures.taken
