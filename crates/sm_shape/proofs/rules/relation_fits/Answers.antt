use Rattle.std.proofs.Common.{◌≡◌, ◌↔◌, ◌<◌, List, length, get_or, sym, ap, subst, ◌∙◌, arith}
use Rattle.std.specs.Prelude.{IsTrue}
use Rattle.sm_defs.specs.Relationship.{Relationship, Policy}
use Rattle.sm_shape.specs.Rules.{PairFits}
use Rattle.sm_shape.proofs.Tests.{and_so}
use Rattle.sm_shape.proofs.RulesLemmas.{pair_crossed}
use Rattle.sm_shape.proofs.rules.relation_fits.Goals as goal

pub returns : goal.returns
returns c = λ w have.
    let r = c.args.relation.now in
    let vs = c.args.volumes.now in
    let s = c.index-volumes-source.result in
    let d = c.index-volumes-destination.result in
    let p = c.index-policies-policy.result in
    let source : r.source ≡ c.relation.inside.source.0 = ap (λ (q : Relationship). q.source) (sym c.relation.view_is) in
    let destination : r.destination ≡ c.relation.inside.destination.0 = ap (λ (q : Relationship). q.destination) (sym c.relation.view_is) in
    let policy : r.policy ≡ c.relation.inside.policy = ap (λ (q : Relationship). q.policy) (sym c.relation.view_is) in
    let many : length w.policies ≡ length c.args.policies.now = ap (λ (l : List Policy). length l) have.policies_are in
    let s_lt : r.source < length vs = omega (arith, source, c.if-source-volumes.false) in
    let d_lt : r.destination < length vs = omega (arith, destination, c.if-destination-volumes.false) in
    let p_lt : r.policy < length w.policies = omega (arith, policy, many, c.if-policy-policies.false) in
    let s_is : s ≡ get_or vs r.source s = c.index-volumes-source.is ∙ ap (λ n. get_or vs n s) (sym source) in
    let d_is : d ≡ get_or vs r.destination d = c.index-volumes-destination.is ∙ ap (λ n. get_or vs n d) (sym destination) in
    let p_is : p ≡ get_or w.policies r.policy p = c.index-policies-policy.is ∙ ap (λ n. get_or c.args.policies.now n p) (sym policy) ∙ ap (λ l. get_or l r.policy p) (sym have.policies_are) in
    let test : IsTrue c.pair_fits.result ↔ PairFits r s d p w.next_relation = subst (λ n. IsTrue c.pair_fits.result ↔ PairFits r s d p n) (sym have.next_is) c.pair_fits.ensures in
    and_so test (pair_crossed w vs have.volumes_are r s d p s_lt s_is d_lt d_is p_lt p_is)
