use Rattle.sm_shape.proofs.Tests.{first_fails}
use Rattle.sm_shape.proofs.shape.state_shapes.Goals as goal

pub returns-then-not-is_formed : goal.returns-then-not-is_formed
returns-then-not-is_formed c = first_fails c.is_formed.result c.if-not-is_formed.true c.is_formed.ensures (λ s. s.formed)

pub returns-then-not-fit : goal.returns-then-not-fit
returns-then-not-fit c = first_fails c.in_ok-fit.fit c.if-not-fit.true c.in_ok-fit.ensures (λ s. s.tags_fit)

pub returns-then-not-named : goal.returns-then-not-named
returns-then-not-named c = first_fails c.in_ok-named.named c.if-not-named.true c.in_ok-named.ensures (λ s. s.copies_named)

pub returns-then-not-agree : goal.returns-then-not-agree
returns-then-not-agree c = first_fails c.in_ok-agree.agree c.if-not-agree.true c.in_ok-agree.ensures (λ s. s.families_agree)

pub returns : goal.returns
returns c = (
  λ e. record {
    formed = c.is_formed.ensures.0 c.if-not-is_formed.false;
    tags_fit = c.in_ok-fit.ensures.0 c.if-not-fit.false;
    copies_named = c.in_ok-named.ensures.0 c.if-not-named.false;
    families_agree = c.in_ok-agree.ensures.0 c.if-not-agree.false;
    numbers_stand = c.in_ok-numbered.ensures.0 e;
  },
  λ s. c.in_ok-numbered.ensures.1 s.numbers_stand,
)
