use Rattle.std.proofs.Common.{◌≡◌, take, map}
use Rattle.sm_shape.specs.Marks.{ident_in}
use Rattle.sm_shape.proofs.marks.idents_of.Given as goal

abbrev pub invariant-loop-snapshot : goal.invariant-loop-snapshot
invariant-loop-snapshot l = l.idents.items ≡ map ident_in (take l.snapshot-index l.snapshots)
