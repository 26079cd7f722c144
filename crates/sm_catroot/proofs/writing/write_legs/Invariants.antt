use Rattle.std.proofs.Common.{◌≡◌, ◌++◌, take}
use Rattle.std.specs.List.{flat_map}
use Rattle.sm_fields.specs.Grammar.{identity_digits}
use Rattle.sm_catroot.proofs.writing.write_legs.Given as goal

abbrev pub invariant-loop-leg : goal.invariant-loop-leg
invariant-loop-leg l = l.writer ≡ l.fn.writer ++ flat_map identity_digits (take l.leg-index l.legs)
