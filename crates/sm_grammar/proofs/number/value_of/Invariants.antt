use Rattle.std.proofs.Common.{◌≡◌, ◌+◌, ◌*◌, ◌^◌, true, length}
use Rattle.sm_grammar.specs.Number.{place_value, all_digits}
use Rattle.sm_grammar.proofs.number.value_of.Given as goal

abbrev pub invariant-loop-rest : goal.invariant-loop-rest
invariant-loop-rest l = (l.value * 10 ^ length l.rest + place_value l.rest ≡ place_value l.text) × (all_digits l.rest ≡ true)

abbrev pub decreases-loop-rest : goal.decreases-loop-rest
decreases-loop-rest l = length l.rest
