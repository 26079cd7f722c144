use Rattle.sm_shape.specs.Blank.{blank}
use Rattle.sm_shape.specs.Kept.{KeepsLegs}
use Rattle.sm_shape.proofs.ListWords.{all_among, among_all}
use Rattle.sm_shape.proofs.kept.legs_kept.Goals as goal

pub returns : goal.returns
returns c =
    let w = c.args.world.now in
    let rs = w.relations.items in
    let test = rw c.deref.ensures.value at c.all_keep_legs.ensures in (
      λ e r t a is. all_among (KeepsLegs (blank w)) rs (test.0 e) r a t is,
      λ all. test.1 (among_all (KeepsLegs (blank w)) rs (λ r a t is. all r t a is)),
    )
