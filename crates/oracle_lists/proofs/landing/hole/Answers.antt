use Rattle.std.proofs.Common.{ap}
use Rattle.sm_defs.specs.Image.{hole}
use Rattle.oracle_lists.proofs.landing.hole.Goals as goal

pub returns : goal.returns
unfolding hole
returns c = ap (λ xs. record { tag = 0; bytes = xs }) (c.in_ok-vec.ensures.items_if_clones_equal (λ y e. e))
