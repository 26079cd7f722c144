use Rattle.std.proofs.Common.{◌≡◌, ◌↔◌, get_or, sym, ap, subst, ◌∙◌}
use Rattle.std.specs.Prelude.{IsTrue}
use Rattle.sm_defs.specs.Relationship.{Relationship}
use Rattle.sm_shape.specs.Rules.{OwnTransferFits}
use Rattle.sm_shape.proofs.RulesLemmas.{transfer_crossed}
use Rattle.sm_shape.proofs.transfers.transfer_rules.Goals as goal

pub returns : goal.returns
returns c = λ w stands next.
    let r = c.args.relation.now in
    let vs = c.args.volumes.now in
    let s = c.index-volumes-source.result in
    let source : r.source ≡ c.relation.inside.source.0 = ap (λ (q : Relationship). q.source) (sym c.relation.view_is) in
    let s_is : s ≡ get_or vs r.source s = c.index-volumes-source.is ∙ ap (λ n. get_or vs n s) (sym source) in
    let test : IsTrue c.in_ok-fits.fits ↔ OwnTransferFits r s w.next_transfer = subst (λ n. IsTrue c.in_ok-fits.fits ↔ OwnTransferFits r s n) (sym next) c.in_ok-fits.ensures in (
      λ e t is. (transfer_crossed w vs stands r s c.requires s_is t).0 (test.0 e t is),
      λ all. test.1 (λ t is. (transfer_crossed w vs stands r s c.requires s_is t).1 (all t is)),
    )
