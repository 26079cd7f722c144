use Rattle.std.proofs.Common.{◌≡◌, ◌++◌, take}
use Rattle.std.specs.List.{flat_map}
use Rattle.sm_fields.specs.Format.{bits32}
use Rattle.sm_fields.specs.Grammar.{digits}
use Rattle.sm_root.proofs.writing.write_map.Given as goal

abbrev pub invariant-loop-number : goal.invariant-loop-number
invariant-loop-number l = l.writer ≡ l.fn.writer ++ flat_map (digits bits32) (take l.number-index l.numbers)
