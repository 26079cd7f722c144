use Rattle.oracle_steps.proofs.shipping.+shippable_from.Given as goal

abbrev pub decreases-shippable_from : goal.decreases-shippable_from
decreases-shippable_from l = l.count
