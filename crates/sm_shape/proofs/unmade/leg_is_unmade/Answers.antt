use Rattle.std.proofs.Common.{◌∙◌, sym}
use Rattle.sm_shape.proofs.unmade.leg_is_unmade.Goals as goal

pub returns : goal.returns
returns c = (
  λ e. record { nowhere = λ r h. c.all_lack.ensures.0 e },
  λ f. c.all_lack.ensures.1 (f.nowhere c.if-not-reserved.false (sym c.source_has.ensures ∙ c.if-source_has.false)),
)
