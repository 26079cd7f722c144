use Rattle.oracle_volumes.proofs.Ruled.{ruled}
use Rattle.oracle_volumes.proofs.policies.rule_named.Goals as goal

pub returns-clause-told : goal.returns-clause-told
returns-clause-told c = ruled c.args.world.now c.rule_at.new.world c.args.name.now c.args.label c.args.keep c.args.at c.args.preserve c.rule_at.result c.requires c.rule_at.ensures.refused c.rule_at.ensures.ok
