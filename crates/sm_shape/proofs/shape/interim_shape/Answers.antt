use Rattle.sm_shape.specs.Blank.{blank}
use Rattle.sm_shape.proofs.Tests.{first_fails, both_hold}
use Rattle.sm_shape.proofs.ShapeLaw.{nothing_shipped}
use Rattle.sm_shape.proofs.shape.interim_shape.Goals as goal

pub returns-then-not-is_interim : goal.returns-then-not-is_interim
returns-then-not-is_interim c = first_fails c.is_interim.result c.if-not-is_interim.true c.is_interim.ensures (λ both. both.0)

pub returns : goal.returns
returns c =
    let w = blank c.args.world.now in
    both_hold c.is_interim.result c.in_ok-shape.shape c.if-not-is_interim.false c.is_interim.ensures c.in_ok-shape.ensures
    (λ interim s. (interim, record { but_legs = s; legs_fit = nothing_shipped w interim }))
    (λ both. both.1.but_legs)
