use Rattle.sm_shape.proofs.given.has_family_standing.Goals as goal

pub returns : goal.returns
returns c = (λ e. record { own = c.own_family_stands.ensures.0 e }, λ h. c.own_family_stands.ensures.1 h.own)
