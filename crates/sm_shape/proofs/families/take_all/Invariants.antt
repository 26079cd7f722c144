use Rattle.std.proofs.Common.{true, take}
use Rattle.std.specs.List.{flat_map}
use Rattle.sm_shape.specs.Copies.{TakesCopies, copies_of}
use Rattle.sm_shape.proofs.families.take_all.Given as goal

abbrev pub invariant-loop-volume : goal.invariant-loop-volume
invariant-loop-volume l = TakesCopies l.fn.firsts l.firsts (flat_map copies_of (take l.volume-index l.volumes)) true
