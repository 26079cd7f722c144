use Rattle.std.proofs.Common.{◌≡◌, take, map, length}
use Rattle.sm_shape.specs.Blank.{blank_volume}
use Rattle.sm_opening.specs.Finding.{root_of}
use Rattle.sm_opening.specs.Bare.{bare_volumes}
use Rattle.sm_opening.proofs.worlds.world_volumes.Given as goal

abbrev pub invariant-loop-placed : goal.invariant-loop-placed
invariant-loop-placed l = map blank_volume l.list.items ≡ bare_volumes (take (length l.yielded) l.placed) (map root_of (take (length l.yielded) l.founds))
