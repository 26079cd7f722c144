use Rattle.std.proofs.Common.{◌≡◌, arith}
use Rattle.sm_space.proofs.FreeLemmas.{same_all, one_more}
use Rattle.sm_space.proofs.fill.Goals as goal

pub loop-number-preserved : goal.loop-number-preserved
loop-number-preserved c =
    let more = one_more c.args.end c.loop-number.all c.loop-number.number c.loop-number.invariant.long (omega arith) (omega arith) c.loop-number.invariant.done c.set.new.self c.set.ensures in record {
      long = more.0;
      done = more.1;
    }

pub returns : goal.returns
returns c = same_all c.args.end c.loop-number.all c.loop-number.number c.loop-number.invariant.long (omega arith) c.loop-number.invariant.done
