use Rattle.std.proofs.Common.{◌∙◌}
use Rattle.sm_defs.specs.Needed.{needed}
use Rattle.oracle_steps.proofs.publishing.kept.Goals as goal

pub returns : goal.returns
returns c = c.in_ok-kept.ensures c.requires (needed c.args.world.now c.args.volume) (c.deref.ensures.value ∙ c.in_ok-needed.ensures)
