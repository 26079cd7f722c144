use Rattle.std.proofs.Common.{◌≡◌, ◌/◌, ℤ, pos, ◌*ℤ◌, unsigned_abs, ap, ◌∙◌, rules, arith}
use Rattle.std.proofs.lemmas.Int.{to_z-of_z}
use mir.Val.{SFits}
use mir.Syntax.{w128}
use Rattle.jiff.specs.Words.{epoch_day}
use Rattle.sm_grammar.proofs.TimeLemmas.{first_day, whole_days, no_start, few_nanos}
use Rattle.sm_grammar.proofs.time.day_of.Goals as goal

pub returns-clause-day : goal.returns-clause-day
returns-clause-day c =
    let f : SFits w128 c.as_nanos.result = search rules in
    let r = simp to_z-of_z at c.unsigned_abs.ensures.value in
    let start : epoch_day c.date.result ≡ pos 0 = first_day c.date.result.year c.date.result.month c.date.result.day c.date.ensures.0 c.date.ensures.1 c.date.ensures.2 in
    let nanos = c.as_nanos.ensures.value ∙ c.duration_since-since.ensures ∙ ap (λ (z : ℤ). z *ℤ pos 86400000000000) (no_start (epoch_day c.args.day) (epoch_day c.date.result) start) in
    ap (λ n. n / 86400000000000) (r ∙ ap unsigned_abs nanos) ∙ whole_days (epoch_day c.args.day)

pub returns-clause-few : goal.returns-clause-few
returns-clause-few c =
    let f : SFits w128 c.as_nanos.result = search rules in
    let r = simp to_z-of_z at c.unsigned_abs.ensures.value in
    let few = few_nanos c.as_nanos.result c.as_nanos.ensures.bound in omega (arith, r, few)
