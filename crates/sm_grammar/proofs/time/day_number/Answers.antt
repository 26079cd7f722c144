use Rattle.std.proofs.Common.{unsigned_abs, ap, ◌∙◌, refl}
use Rattle.sm_grammar.proofs.TimeLemmas.{found_day, no_day, same_day}
use Rattle.sm_grammar.proofs.time.day_number.Goals as goal

pub returns-in-Some-clause-day : goal.returns-in-Some-clause-day
returns-in-Some-clause-day c =
    let is = c.in-Some.ensures.value in
    found_day c.args.year c.args.month c.args.day c.day_of.result (c.in-Some.ensures.succeeds.0 refl)
    (c.day_of.ensures.day ∙ ap unsigned_abs (same_day c.in-Some.date.year c.in-Some.date.month c.in-Some.date.day c.args.year c.args.month c.args.day is.0 is.1 is.2))

pub returns-in-None-clause-day : goal.returns-in-None-clause-day
returns-in-None-clause-day c = no_day c.args.year c.args.month c.args.day c.requires.years (λ date. let some = c.in-None.ensures.succeeds.1 date in absurd (cc))
