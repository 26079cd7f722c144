use Rattle.std.proofs.Common.{◌≡◌, ◌<◌, length, get_or, ap, subst, sym, ◌∙◌, arith, inl, inr}
use Rattle.std.proofs.lemmas.Bool.{cases_eq}
use Rattle.std.proofs.lemmas.Bool.Decides.{nat_tests}
use Rattle.sm_defs.specs.Volume.{numbers}
use Rattle.sm_shape.proofs.Tests.{answered_no, answered_yes}
use Rattle.sm_shape.proofs.Prefix.{long_numbers, number_at, are_numbers}
use Rattle.sm_shape.proofs.relations.is_prefix.Goals as goal

pub returns-then-not-long : goal.returns-then-not-long
returns-then-not-long c = answered_no (λ e.
    let long : length c.args.landed.now ≡ c.args.checkpoint = ap (λ l. length l) e ∙ long_numbers c.args.checkpoint 0 in
    grind (arith, nat_tests))

pub returns-then-not-stands : goal.returns-then-not-stands
returns-then-not-stands c = answered_no (λ e.
    let k = c.loop-place.place in
    let lt : k < c.args.checkpoint = grind (arith, nat_tests) in
    let at = ap (λ l. get_or l k 0) e ∙ number_at c.args.checkpoint 0 k lt in
    let there : get_or c.args.landed.now k 0 ≡ k = omega (arith, at) in
    grind (arith, nat_tests))

pub loop-place-preserved : goal.loop-place-preserved
loop-place-preserved c = λ j lt. elim (cases_eq j c.loop-place.place) [
  | inl same ↦ let there : get_or c.args.landed.now c.loop-place.place 0 ≡ c.loop-place.place = grind (arith, nat_tests) in subst (λ n. get_or c.args.landed.now n 0 ≡ n) (sym same) there
  | inr other ↦ c.loop-place.invariant j (omega arith)
]

pub returns : goal.returns
returns c =
    let long : length c.args.landed.now ≡ c.args.checkpoint = grind (arith, nat_tests) in
    answered_yes (are_numbers c.args.landed.now 0 (λ k lt. let at = c.loop-place.invariant k (omega (arith, lt, c.loop-place-test.false)) in omega (arith, at)) ∙ ap (numbers 0) long)
