use Rattle.std.proofs.Common.{arith, ap, sym, ◌∙◌, length, ◌≡◌, [], refl}
use borrow.Author.Tests.{eqb-true, eqb-false}
use Rattle.std.proofs.lemmas.List.Quantifiers.{position-Some}
use Rattle.sm_grammar.proofs.SplitLemmas.{word_to, blank_passed, last_word, no_word}
use Rattle.sm_grammar.specs.Words.{first_of, words_of, is_blank}
use Rattle.sm_grammar.proofs.words.first_word.Goals as goal

pub behind-rest-requires : goal.behind-rest-requires
behind-rest-requires c = (position-Some is_blank c.loop-at.text.now c.in-Some.at 0 (sym c.blank.ensures ∙ c.in-Some.is)).0

pub returns-then-at-gt0 : goal.returns-then-at-gt0
returns-then-at-gt0 c =
    let text = c.loop-at.text.now in let at = c.in-Some.at in
    let e = sym c.loop-at.invariant ∙ word_to text at (sym c.blank.ensures ∙ c.in-Some.is) c.if-at-gt0.true in
    rw (sym c.behind-rest.ensures) at (sym (ap first_of e))

pub loop-at-preserved : goal.loop-at-preserved
loop-at-preserved c =
    let text = c.loop-at.text.now in let at = c.in-Some.at in
    ap words_of c.behind-rest.ensures ∙ sym (blank_passed text at (sym c.blank.ensures ∙ c.in-Some.is) (omega (arith, c.if-at-gt0.false))) ∙ c.loop-at.invariant

pub returns-then-is_empty : goal.returns-then-is_empty
returns-then-is_empty c =
    let none : length c.loop-at.text.now ≡ 0 = eqb-true _ _ (sym c.is_empty.ensures ∙ c.if-is_empty.true) in
    ap first_of (sym (no_word c.loop-at.text.now none) ∙ c.loop-at.invariant)

pub returns-else-is_empty : goal.returns-else-is_empty
returns-else-is_empty c =
    let some = eqb-false (length c.loop-at.text.now) 0 (sym c.is_empty.ensures ∙ c.if-is_empty.false) in
    let e = sym c.loop-at.invariant ∙ last_word c.loop-at.text.now (sym c.blank.ensures ∙ c.in_default.is) (omega (arith, some)) in
    rw (no_word [] refl) (sym (ap first_of e))
