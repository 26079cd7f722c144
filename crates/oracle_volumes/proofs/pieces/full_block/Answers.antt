use Rattle.std.proofs.Common.{ap}
use Rattle.sm_defs.specs.Image.{full_block}
use Rattle.oracle_volumes.proofs.pieces.full_block.Goals as goal

pub returns : goal.returns
unfolding full_block
returns c = ap (λ xs. record { tag = c.args.tag; bytes = xs }) (c.in_ok-vec.ensures.items_if_clones_equal (λ y e. e))
