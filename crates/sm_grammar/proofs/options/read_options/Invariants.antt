use Rattle.std.proofs.Common.{◌≡◌, [], length}
use Rattle.sm_grammar.specs.Options.{options}
use Rattle.sm_grammar.specs.Words.{words_left}
use Rattle.sm_grammar.proofs.options.read_options.Given as goal

abbrev pub invariant-loop-word : goal.invariant-loop-word
invariant-loop-word l = options l.form (words_left l.words) l.given ≡ options l.form (words_left l.initial.words) []

abbrev pub decreases-loop-word : goal.decreases-loop-word
decreases-loop-word l = length (words_left l.words)
