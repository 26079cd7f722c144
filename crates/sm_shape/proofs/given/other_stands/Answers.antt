use Rattle.std.proofs.lemmas.Bool.{both_ways}
use Rattle.sm_shape.proofs.Tests.{answered_no, answered_yes}
use Rattle.sm_shape.proofs.given.other_stands.Goals as goal

pub returns-then-is_at : goal.returns-then-is_at
returns-then-is_at c = answered_yes (record {
  alone = λ other. absurd (other (c.is_at.ensures.0 c.if-is_at.true));
  apart = λ other. absurd (other (c.is_at.ensures.0 c.if-is_at.true));
})

pub returns-then-not-has_family : goal.returns-then-not-has_family
returns-then-not-has_family c = answered_yes (record {
  alone = λ _ own. absurd (both_ways c.has_family.result c.if-not-has_family.true (c.has_family.ensures.1 own));
  apart = λ _ own. absurd (both_ways c.has_family.result c.if-not-has_family.true (c.has_family.ensures.1 own));
})

pub returns-then-not-legs_beside : goal.returns-then-not-legs_beside
returns-then-not-legs_beside c =
    let test = rw c.deref.ensures.value at c.legs_beside.ensures in
    let own = c.has_family.ensures.0 c.if-not-has_family.false in
    answered_no (λ o. both_ways c.legs_beside.result c.if-not-legs_beside.true (test.1 (o.alone (λ same. both_ways c.is_at.result c.if-is_at.false (c.is_at.ensures.1 same)) own)))

pub returns : goal.returns
returns c =
    let test = rw c.deref.ensures.value at c.legs_beside.ensures in
    let apart = rw (c.deref-2.ensures.value, c.deref-3.ensures.value) at c.stands_apart.ensures in
    let own = c.has_family.ensures.0 c.if-not-has_family.false in (
      λ e. record { alone = λ _ _. test.0 c.if-not-legs_beside.false; apart = λ _ _. apart.0 e },
      λ o. apart.1 (o.apart (λ same. both_ways c.is_at.result c.if-is_at.false (c.is_at.ensures.1 same)) own),
    )
