use Rattle.std.proofs.Common.{[], sym, ap, ◌∙◌}
use Rattle.sm_node.specs.Holding.{with_link}
use Rattle.sm_events.proofs.relating.add_edge.Goals as goal

pub returns-in_ok-add : goal.returns-in_ok-add
returns-in_ok-add g c = c.in_ok-add.ensures.ok ∙ sym (ap (λ b. with_link b c.args.relation.now c.args.graph.now) (sym (c.is_edge.ensures []) ∙ c.if-is_edge.true))

pub returns-else-is_edge : goal.returns-else-is_edge
returns-else-is_edge g c = sym (ap (λ b. with_link b c.args.relation.now c.args.graph.now) (sym (c.is_edge.ensures []) ∙ c.if-is_edge.false))
