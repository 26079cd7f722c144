use Rattle.std.proofs.Common.{true, take}
use Rattle.std.specs.List.{flat_map}
use Rattle.sm_shape.specs.Copies.{TakesNamed, named_of}
use Rattle.sm_shape.proofs.copies.take_volumes.Given as goal

abbrev pub invariant-loop-volume : goal.invariant-loop-volume
invariant-loop-volume l = TakesNamed l.fn.firsts l.firsts (flat_map named_of (take l.volume-index l.volumes)) true
