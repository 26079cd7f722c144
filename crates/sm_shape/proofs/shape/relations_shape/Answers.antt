use Rattle.sm_shape.proofs.Tests.{first_fails}
use Rattle.sm_shape.proofs.shape.relations_shape.Goals as goal

pub returns-then-not-destinations_stand : goal.returns-then-not-destinations_stand
returns-then-not-destinations_stand c = first_fails c.destinations_stand.result c.if-not-destinations_stand.true c.destinations_stand.ensures (λ s. s.destinations_stand)

pub returns-then-not-families_stand : goal.returns-then-not-families_stand
returns-then-not-families_stand c = first_fails c.families_stand.result c.if-not-families_stand.true c.families_stand.ensures (λ s. s.families_stand)

pub returns-then-not-legs_kept : goal.returns-then-not-legs_kept
returns-then-not-legs_kept c = first_fails c.legs_kept.result c.if-not-legs_kept.true c.legs_kept.ensures (λ s. s.legs_kept)

pub returns : goal.returns
returns c = (
  λ e. record {
    destinations_stand = c.destinations_stand.ensures.0 c.if-not-destinations_stand.false;
    families_stand = c.families_stand.ensures.0 c.if-not-families_stand.false;
    legs_kept = c.legs_kept.ensures.0 c.if-not-legs_kept.false;
    transfers_stand = c.transfers_stand.ensures.0 e;
  },
  λ s. c.transfers_stand.ensures.1 s.transfers_stand,
)
