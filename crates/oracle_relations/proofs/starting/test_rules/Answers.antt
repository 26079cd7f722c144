use Rattle.oracle_relations.proofs.Reaching.{no_rule, some_rule}
use Rattle.oracle_relations.proofs.starting.test_rules.Goals as goal

pub returns-in-None : goal.returns-in-None
returns-in-None c = no_rule _ (rw c.in-None.is at c.keep_reached.ensures)

pub returns-in_ok-copy-in-Some : goal.returns-in_ok-copy-in-Some
returns-in_ok-copy-in-Some c = rw c.in_ok-copy-in-Some.ensures (some_rule _ _ (rw c.in-Some.is at c.keep_reached.ensures))
