use Rattle.sm_shape.specs.Blank.{blank}
use Rattle.sm_shape.specs.Standing.{HasStanding}
use Rattle.sm_shape.proofs.ListWords.{all_among, among_all}
use Rattle.sm_shape.proofs.standing.transfers_stand.Goals as goal

pub returns : goal.returns
returns c =
    let w = c.args.world.now in
    let rs = w.relations.items in
    let test = rw c.deref.ensures.value at c.all_have_standing.ensures in (
      λ e r t a is. (all_among (HasStanding (blank w)) rs (test.0 e) r a).stands t is,
      λ all. test.1 (among_all (HasStanding (blank w)) rs (λ r a. record { stands = λ t is. all r t a is })),
    )
