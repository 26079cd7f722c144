use Rattle.oracle_steps.proofs.choice.+first_tidy.Given as goal

abbrev pub decreases-first_tidy : goal.decreases-first_tidy
decreases-first_tidy l = l.count
