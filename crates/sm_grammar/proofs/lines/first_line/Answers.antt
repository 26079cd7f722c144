use Rattle.std.proofs.Common.{arith, length-drop, sym, ap, ◌∙◌, ◌∷◌, ◌≤◌, length, ◌+◌, ◌-◌, drop, take, ◌≡◌}
use Rattle.std.proofs.lemmas.List.{take_all}
use Rattle.sm_grammar.specs.Lines.{lines_of}
use Rattle.sm_grammar.proofs.SplitLemmas.{line_to, one_line}
use Rattle.sm_grammar.proofs.lines.first_line.Goals as goal

pub returns-in-Some-clause-lines : goal.returns-in-Some-clause-lines
returns-in-Some-clause-lines c =
    let text = c.args.text.now in let at = c.in-Some.at in
    let fits : length (drop (at + 1) text) ≤ length text - (at + 1) = omega (arith, length-drop (at + 1) text) in
    let whole : take (length text - (at + 1)) (drop (at + 1) text) ≡ drop (at + 1) text = take_all _ _ fits in
    rw whole (line_to text at (sym c.in-Some.ensures) ∙ ap (λ l. l ∷ lines_of (drop (at + 1) text)) (sym c.without_return.ensures))

pub returns-in-None-clause-lines : goal.returns-in-None-clause-lines
returns-in-None-clause-lines c = one_line c.args.text.now (sym c.in-None.ensures) c.requires
