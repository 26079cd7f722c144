use Rattle.std.proofs.Common.{◌≡◌, take}
use Rattle.oracle_lists.proofs.values.copy_image.Given as goal

abbrev pub invariant-loop-block : goal.invariant-loop-block
invariant-loop-block l = l.copy.items ≡ take l.block-index l.image
