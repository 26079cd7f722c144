use Rattle.std.proofs.Common.{map, sym, ap, ◌∙◌}
use Rattle.sm_defs.specs.Relationship.{is_mirror}
use Rattle.sm_root.specs.Condition.{ident_of}
use Rattle.sm_root.specs.declared.root.Root.{Root}
use Rattle.sm_model.specs.OfTransfers.{first_held}
use Rattle.sm_publish.specs.Dropping.{lost_from}
use Rattle.sm_publish.proofs.GoingLemmas.{held_some, held_none, layouts}
use Rattle.sm_publish.proofs.pruning.prune_reason.Goals as goal

pub returns-in-Some : goal.returns-in-Some
returns-in-Some c = λ who n s d is e f.
    held_some (first_held who (lost_from s.snapshots d.snapshots)) _ c.in-Some.reason
    (sym c.in-Some.is ∙ c.lost_reason.ensures who s.snapshots d.snapshots (ap (map ident_of) c.as_slice.ensures ∙ is.snapshots) (c.as_slice-2.ensures ∙ ap (λ (r : Root). r.snapshots) e) f)

pub returns-in-None : goal.returns-in-None
returns-in-None c = λ who n s d is e f.
    c.layout_reason.ensures ∙ (layouts (is_mirror c.args.policy.now.kind) n c.args.source.now s d c.args.destination.now is e
    ∙ held_none (first_held who (lost_from s.snapshots d.snapshots)) _
    (sym c.in-None.is ∙ c.lost_reason.ensures who s.snapshots d.snapshots (ap (map ident_of) c.as_slice.ensures ∙ is.snapshots) (c.as_slice-2.ensures ∙ ap (λ (r : Root). r.snapshots) e) f))
