use Rattle.oracle_steps.proofs.shipping.+all_stand.Given as goal

abbrev pub decreases-all_stand : goal.decreases-all_stand
decreases-all_stand l = l.count
