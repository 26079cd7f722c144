use Rattle.std.proofs.Common.{subst, arith}
use Rattle.sm_transfer.specs.Sending.{IsUnderWay}
use Rattle.sm_transfer.proofs.LandedLemmas.{ascend, among_within, marked_among}
use Rattle.sm_transfer.proofs.transfer.Transfer.told.Goals as goal

pub returns : goal.returns
returns c =
    let at = c.self.inside in
    subst IsUnderWay c.self.view_is (record {
      ascends = ascend at.marks;
      planned = λ k in_it. let less = among_within at.marks k in_it in let long = c.self.invariant.long in omega arith;
      below = λ k less. marked_among at.marks k (c.self.invariant.below k less);
      within = c.self.invariant.within;
    })
