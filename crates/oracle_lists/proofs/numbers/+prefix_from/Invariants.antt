use Rattle.oracle_lists.proofs.numbers.+prefix_from.Given as goal

abbrev pub decreases-prefix_from : goal.decreases-prefix_from
decreases-prefix_from l = l.count
