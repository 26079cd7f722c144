use Rattle.std.proofs.Common.{sym, ap, ◌∙◌}
use Rattle.sm_node.specs.Viewing.{view_named}
use Rattle.sm_node.proofs.HoldingLemmas.{ok_so}
use Rattle.sm_node.proofs.reading.view_of.Goals as goal

pub returns-in-Some : goal.returns-in-Some
returns-in-Some c = ok_so c.newest_view.result _ _ c.newest_view.ensures (λ answer e number v is. e number v is ∙ ap (view_named v) (sym c.in-Some.is))
