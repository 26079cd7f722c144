use Rattle.std.proofs.Common.{◌≡◌, ◌+◌, ◌≤◌, length}
use Rattle.sm_grammar.specs.Lines.{lines_of}
use Rattle.sm_grammar.specs.Script.{commands_from, parse}
use Rattle.sm_grammar.proofs.Front.{with_front}
use Rattle.sm_grammar.proofs.read.read_commands.Given as goal

abbrev pub invariant-loop-rest : goal.invariant-loop-rest
invariant-loop-rest l =
    (with_front l.commands.items (commands_from (l.number + 1) (lines_of l.rest)) ≡ parse l.text) × (l.number + length l.rest ≤ length l.text) ×
    (length l.commands.items ≤ l.number)

abbrev pub decreases-loop-rest : goal.decreases-loop-rest
decreases-loop-rest l = length l.rest
