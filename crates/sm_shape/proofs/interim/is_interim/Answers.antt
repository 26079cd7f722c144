use Rattle.sm_shape.specs.Interim.{IsPlain, IsMirrors}
use Rattle.sm_shape.proofs.ListWords.{all_among, among_all}
use Rattle.sm_shape.proofs.Tests.{first_fails, both_hold}
use Rattle.sm_shape.proofs.interim.is_interim.Goals as goal

pub returns-then-not-are_plain : goal.returns-then-not-are_plain
returns-then-not-are_plain c =
    first_fails c.are_plain.result c.if-not-are_plain.true (rw c.deref.ensures.value at c.are_plain.ensures) (λ i. among_all IsPlain c.args.world.now.relations.items i.relations)

pub returns : goal.returns
returns c =
    let rs = c.args.world.now.relations.items in
    let ps = c.args.world.now.policies.items in
    both_hold c.are_plain.result c.are_mirrors.result c.if-not-are_plain.false (rw c.deref.ensures.value at c.are_plain.ensures) (rw c.deref-2.ensures.value at c.are_mirrors.ensures)
    (λ a b. record { relations = all_among IsPlain rs a; policies = all_among IsMirrors ps b })
    (λ i. among_all IsMirrors ps i.policies)
