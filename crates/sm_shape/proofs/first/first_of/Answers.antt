use Rattle.std.proofs.Common.{◌≡◌, List, length, ap, arith}
use Rattle.sm_defs.specs.Relationship.{Relationship}
use Rattle.sm_shape.specs.Blank.{blank}
use Rattle.sm_shape.proofs.CrossedLaw.{crossed_of}
use Rattle.sm_shape.proofs.first.first_of.Goals as goal

pub returns : goal.returns
returns c =
    let long : length c.args.relations.now ≡ length c.args.world.now.relations.items = ap (λ (l : List Relationship). length l) c.requires in
    crossed_of (blank c.args.world.now) (λ k lt. c.loop-place.invariant k (omega (arith, lt, long, c.loop-place-test.false)))
