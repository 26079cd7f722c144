use Rattle.std.proofs.Common.{◌∙◌}
use Rattle.sm_shape.proofs.RulesLemmas.{has_blank}
use Rattle.sm_fit.proofs.reading.has_snapshot.Goals as goal

pub returns : goal.returns
returns c = c.any_has.ensures ∙ has_blank c.args.snapshots.now c.args.ident
