use Rattle.sm_shape.proofs.Tests.{both_hold}
use Rattle.sm_fit.proofs.whole.shape.Goals as goal

pub returns : goal.returns
returns c = both_hold c.in_ok-rest.rest c.in_ok-fit.fit c.if-not-rest.false c.in_ok-rest.ensures c.in_ok-fit.ensures (λ a b. record { but_legs = a; legs_fit = b }) (λ s. s.legs_fit)
