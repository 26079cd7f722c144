use Rattle.std.proofs.Common.{◌≡◌, length}
use Rattle.sm_grammar.specs.Forms.{behind}
use Rattle.sm_grammar.specs.Words.{words_left}
use Rattle.sm_grammar.proofs.forms.behind.Given as goal

abbrev pub invariant-loop-wanted : goal.invariant-loop-wanted
invariant-loop-wanted l = behind (words_left l.first) (words_left l.words) ≡ behind (words_left l.initial.first) (words_left l.initial.words)

abbrev pub decreases-loop-wanted : goal.decreases-loop-wanted
decreases-loop-wanted l = length (words_left l.first)
