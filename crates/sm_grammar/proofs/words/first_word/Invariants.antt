use Rattle.std.proofs.Common.{◌≡◌, length}
use Rattle.sm_grammar.specs.Words.{words_of}
use Rattle.sm_grammar.proofs.words.first_word.Given as goal

abbrev pub invariant-loop-at : goal.invariant-loop-at
invariant-loop-at l = words_of l.text ≡ words_of l.initial.text

abbrev pub decreases-loop-at : goal.decreases-loop-at
decreases-loop-at l = length l.text
