use Rattle.sm_shape.proofs.Tests.{first_fails, both_hold}
use Rattle.sm_shape.proofs.GivenLemmas.{given_of, of_given}
use Rattle.sm_shape.proofs.given.families_stand.Goals as goal

pub returns-then-not-families_given : goal.returns-then-not-families_given
returns-then-not-families_given c =
    first_fails c.families_given.result c.if-not-families_given.true (rw c.deref.ensures.value at c.families_given.ensures) (λ f. of_given c.args.world.now f.given)

pub returns : goal.returns
returns c =
    let w = c.args.world.now in
    both_hold c.families_given.result c.all_stand.result c.if-not-families_given.false (rw c.deref.ensures.value at c.families_given.ensures) (rw c.deref-2.ensures.value at c.all_stand.ensures)
    (λ given all. record { given = given_of w given; transfers = λ r t a is. ((all r a).own t is).stands })
    (λ f r a. record { own = λ t is. record { stands = f.transfers r t a is } })
