use Rattle.std.proofs.Common.{arith}
use Rattle.std.proofs.lemmas.Grind.{common_steps}
use Rattle.oracle_world.proofs.needs.needed_for.Goals as goal

pub returns-else-needed_at_source : goal.returns-else-needed_at_source
returns-else-needed_at_source c = let e = c.needed_at_destination.ensures c.args.world.now in grind (arith, common_steps)
