use Rattle.std.proofs.Common.{[], sym, ap, ◌∙◌}
use Rattle.sm_node.specs.Holding.{with_link}
use Rattle.sm_node.proofs.holding.add_mirror.Goals as goal

pub returns-in_ok-add : goal.returns-in_ok-add
returns-in_ok-add g c = c.in_ok-add.ensures.ok ∙ sym (ap (λ b. with_link b c.args.relation.now c.args.graph.now) (sym (c.is_mirror_edge.ensures []) ∙ c.if-is_mirror_edge.true))

pub returns-else-is_mirror_edge : goal.returns-else-is_mirror_edge
returns-else-is_mirror_edge g c = sym (ap (λ b. with_link b c.args.relation.now c.args.graph.now) (sym (c.is_mirror_edge.ensures []) ∙ c.if-is_mirror_edge.false))
