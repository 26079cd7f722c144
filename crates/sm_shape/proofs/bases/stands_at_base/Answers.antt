use Rattle.std.proofs.Common.{◌≡◌, ◌<◌, ◌≤◌, length, get_or, sym, ap, ◌∙◌, arith}
use Rattle.sm_defs.specs.Relationship.{Relationship}
use Rattle.sm_shape.proofs.Tests.{and_so, answered_yes}
use Rattle.sm_shape.proofs.BasesLemmas.{base_shown, nothing_shown}
use Rattle.sm_shape.proofs.bases.stands_at_base.Goals as goal

pub returns-then-destination-volumes : goal.returns-then-destination-volumes
returns-then-destination-volumes c =
    let r = c.args.relation.now in
    let at : r.destination ≡ c.relation.inside.destination.0 = ap (λ (q : Relationship). q.destination) (sym c.relation.view_is) in
    let past : length c.args.volumes.now ≤ r.destination = omega (arith, at, c.if-destination-volumes.true) in
    answered_yes (nothing_shown c.args.volumes.now r past)

pub returns : goal.returns
returns c =
    let r = c.args.relation.now in
    let vs = c.args.volumes.now in
    let v = c.index-volumes-destination.result in
    let at : r.destination ≡ c.relation.inside.destination.0 = ap (λ (q : Relationship). q.destination) (sym c.relation.view_is) in
    let lt : r.destination < length vs = omega (arith, at, c.if-destination-volumes.false) in
    let is : v ≡ get_or vs r.destination v = c.index-volumes-destination.is ∙ ap (λ n. get_or vs n v) (sym at) in
    and_so c.shows_base.ensures (base_shown vs r v lt is)
