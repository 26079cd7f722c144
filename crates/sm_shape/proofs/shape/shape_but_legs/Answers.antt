use Rattle.sm_shape.proofs.Tests.{first_fails, both_hold}
use Rattle.sm_shape.proofs.shape.shape_but_legs.Goals as goal

pub returns-then-not-state : goal.returns-then-not-state
returns-then-not-state c = first_fails c.in_ok-state.state c.if-not-state.true c.in_ok-state.ensures (λ s. s.state)

pub returns : goal.returns
returns c = both_hold c.in_ok-state.state c.relations_shape-relations.result c.if-not-state.false c.in_ok-state.ensures c.relations_shape-relations.ensures (λ a b. record { state = a; relations = b }) (λ s. s.relations)
