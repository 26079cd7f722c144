use Rattle.std.proofs.Common.{◌≡◌, ◌++◌, take}
use Rattle.std.specs.List.{flat_map}
use Rattle.sm_catroot.specs.Spelling.{placed_digits}
use Rattle.sm_catroot.proofs.writing.write_each_placed.Given as goal

abbrev pub invariant-loop-placed : goal.invariant-loop-placed
invariant-loop-placed l = l.writer ≡ l.fn.writer ++ flat_map placed_digits (take l.placed-index l.volumes)
