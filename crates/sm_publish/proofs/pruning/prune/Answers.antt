use Rattle.std.proofs.Common.{◌≡◌, map, Option, None, sym, ap, subst, ◌∙◌}
use Rattle.std.specs.Prelude.{is_some}
use Rattle.std.proofs.lemmas.List.{length-map}
use Rattle.sm_base.specs.declared.refusal.Reason.{Reason}
use Rattle.sm_defs.specs.Needed.{needed, holder}
use Rattle.sm_defs.specs.Pruning.{is_pruned}
use Rattle.sm_root.specs.Condition.{ident_of}
use Rattle.sm_root.specs.declared.root.Root.{Root}
use Rattle.sm_model.specs.Due.{goes, prune_reason}
use Rattle.sm_publish.specs.Dropping.{Drops}
use Rattle.sm_publish.proofs.CommitLemmas.{is_stopped}
use Rattle.sm_publish.proofs.GoingLemmas.{differ_kept, marks_tell, unseen, unseen_there}
use Rattle.sm_publish.proofs.PruneLemmas.{reason_is, marks_are, goes_is}
use Rattle.sm_publish.proofs.pruning.prune.Goals as goal

pub returns-in-Some : goal.returns-in-Some
returns-in-Some g c = λ w x is.
    let v = c.args.destination.now.volume in
    is_stopped g.D.Disk.state _ (prune_reason w x) _ _ c.args.destination.now c.in-Some.reason
    (sym (reason_is w x c.args.policy.now c.args.holders.now c.args.source.now v is) ∙ (sym (c.prune_reason.ensures (holder w x.relation.destination) c.args.destination.now.number x.source v is.of_source c.root-root.ensures is.of_holders) ∙ c.in-Some.is))

pub drop_all-requires-clause-there : goal.drop_all-requires-clause-there
drop_all-requires-clause-there g c =
    let v = c.args.destination.now.volume in
    let source = c.args.source.now.snapshots in
    let (needs, told) = marks_tell (map is_some c.args.holders.now) v.snapshots (length-map c.args.holders.now is_some ∙ c.requires.places) (differ_kept v.snapshots c.told.ensures.good.idents_differ) in
    (is_pruned c.args.policy.now needs (map unseen source), c.deref.ensures.value ∙ c.in-Ok.ensures needs (map unseen source) v.snapshots (ap (map ident_of) c.as_slice.ensures ∙ unseen_there source) (c.as_slice-in-None.ensures ∙ ap (λ (r : Root). r.snapshots) c.root-root.ensures) told)

pub returns-in-Ok : goal.returns-in-Ok
returns-in-Ok g c = λ w x is.
    let v = c.args.destination.now.volume in
    let none : prune_reason w x ≡ None = sym (reason_is w x c.args.policy.now c.args.holders.now c.args.source.now v is) ∙ (sym (c.prune_reason.ensures (holder w x.relation.destination) c.args.destination.now.number x.source v is.of_source c.root-root.ensures is.of_holders) ∙ c.in-None.is) in
    let drops = c.deref.ensures.value ∙ (c.in-Ok.ensures (needed w x.relation.destination) x.source.snapshots v.snapshots (ap (map ident_of) c.as_slice.ensures ∙ is.of_source.snapshots) (c.as_slice-in-None.ensures ∙ ap (λ (r : Root). r.snapshots) c.root-root.ensures) (marks_are w x c.args.policy.now c.args.holders.now c.args.source.now v is)
    ∙ goes_is w x c.args.policy.now c.args.holders.now c.args.source.now v is) in
    subst (λ (o : Option Reason). Drops g.D.Disk.state (goes w x) o c.drop_all.result c.args.destination.now c.drop_all.new.volume) (sym none) (c.drop_all.ensures (goes w x) drops)
