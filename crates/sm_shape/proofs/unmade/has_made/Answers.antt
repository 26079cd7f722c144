use Rattle.std.proofs.Common.{◌∙◌}
use Rattle.sm_shape.proofs.UnmadeLemmas.{made_is}
use Rattle.sm_shape.proofs.unmade.has_made.Goals as goal

pub returns : goal.returns
returns c = c.any_made.ensures ∙ made_is c.args.source c.args.number c.args.snapshots.now
