use Rattle.std.proofs.Common.{sym, ◌∙◌}
use Rattle.sm_shape.proofs.relations.relation_forms.Goals as goal

pub returns : goal.returns
returns c = (
  λ e. record { half = sym c.has_half.ensures ∙ c.if-not-has_half.false; transfer = c.own_transfer_forms.ensures.0 e },
  λ f. c.own_transfer_forms.ensures.1 f.transfer,
)
