use Rattle.std.proofs.Common.{arith, length, refl}
use Rattle.sm_grammar.proofs.NumberLemmas.{grows, one_digit}
use Rattle.sm_grammar.proofs.number.value_of.Goals as goal

pub returns-then-value : goal.returns-then-value
returns-then-value c = λ low. let l = c.loop-rest in omega (arith, grows l.value (length l.rest.now), l.invariant.0)

pub loop-rest-preserved : goal.loop-rest-preserved
loop-rest-preserved c =
    let l = c.loop-rest in
    one_digit l.value _ _ _ l.rest.now refl c.in-len1-up.len_at_least c.from.ensures l.invariant.1 l.invariant.0
