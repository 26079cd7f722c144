use Rattle.sm_shape.specs.Blank.{blank}
use Rattle.sm_shape.proofs.CrossedLaw.{told}
use Rattle.sm_shape.proofs.first.first_crossing.Goals as goal

pub returns : goal.returns
returns c = told (blank c.args.world.now) c.in_ok-found.found c.in_ok-found.ensures
