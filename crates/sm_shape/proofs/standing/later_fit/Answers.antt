use Rattle.sm_shape.proofs.StandingLemmas.{rest_later}
use Rattle.sm_shape.proofs.standing.later_fit.Goals as goal

pub returns-in-len1-up : goal.returns-in-len1-up
returns-in-len1-up c = rw (rest_later c.args.legs.now) at c.lacks_all.ensures
