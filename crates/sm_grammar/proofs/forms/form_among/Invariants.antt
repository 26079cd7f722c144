use Rattle.std.proofs.Common.{◌≡◌, drop}
use Rattle.sm_grammar.specs.Forms.{form_among}
use Rattle.sm_grammar.specs.Words.{words_left}
use Rattle.sm_grammar.proofs.forms.form_among.Given as goal

abbrev pub invariant-loop-form : goal.invariant-loop-form
invariant-loop-form l = form_among (drop l.form-index l.forms) (words_left l.words) ≡ form_among l.fn.forms (words_left l.words)
