use Rattle.sm_shape.proofs.KeptLemmas.{unruled}
use Rattle.sm_shape.proofs.policies.is_new.Goals as goal

pub returns : goal.returns
returns c = unruled c.args.rules.now c.args.label.now c.is_ruled.result c.is_ruled.ensures
