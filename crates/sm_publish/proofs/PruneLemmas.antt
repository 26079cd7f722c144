-- What a Prune is given, and the definitions' step.
use Rattle.std.proofs.Common.{◌≡◌, ◌==◌, ◌&&◌, not, List, map, Option, None, sym, ap, ◌∙◌}
use Rattle.std.specs.Prelude.{is_some}
use Rattle.std.specs.List.{filter}
use Rattle.sm_base.specs.declared.numbers.RelNo.{RelNo}
use Rattle.sm_base.specs.declared.refusal.Reason.TheVariants as reasons
use Rattle.sm_defs.specs.Edges.{is_empty}
use Rattle.sm_defs.specs.Needed.{needed, holder}
use Rattle.sm_defs.specs.Pruning.{is_pruned}
use Rattle.sm_defs.specs.Relationship.{Policy, is_mirror}
use Rattle.sm_defs.specs.Volume.{Volume, idents}
use Rattle.sm_defs.specs.World.{Up}
use Rattle.sm_policy.specs.Marks.{needed_marks}
use Rattle.sm_root.specs.declared.root.Root.{Root}
use Rattle.sm_model.specs.Due.{goes, held_reason, prune_reason, reason_if}
use Rattle.sm_model.specs.OfTransfers.{first_held}
use Rattle.sm_model.specs.Running.{Running}
use Rattle.sm_publish.specs.Dropping.{lost_from, IsPruneOf}
use Rattle.sm_publish.proofs.GoingLemmas.{held_marks}

module _ (w : Up) (x : Running) (policy : Policy) (holders : List (Option RelNo)) (source : Root) (v : Volume) (is : IsPruneOf w x policy holders source v) where
  pub reason_is : held_reason (first_held (holder w x.relation.destination) (lost_from x.source.snapshots v.snapshots)) (reason_if (is_mirror policy.kind && not (is_empty v.snapshots) && not (x.source.family == v.family)) reasons.OtherLayout None) ≡ prune_reason w x
  reason_is =
      ap (λ (p : Policy). held_reason (first_held (holder w x.relation.destination) (lost_from x.source.snapshots v.snapshots)) (reason_if (is_mirror p.kind && not (is_empty v.snapshots) && not (x.source.family == v.family)) reasons.OtherLayout None)) (sym is.of_policy)
      ∙ ap (λ (d : Volume). held_reason (first_held (holder w x.relation.destination) (lost_from x.source.snapshots d.snapshots)) (reason_if (is_mirror x.policy.kind && not (is_empty d.snapshots) && not (x.source.family == d.family)) reasons.OtherLayout None)) (sym is.of_destination)

  pub marks_are : map is_some holders ≡ needed_marks (needed w x.relation.destination) v.snapshots
  marks_are = ap (map is_some) is.of_holders ∙ held_marks w x.relation.destination v.snapshots

  pub goes_is : idents (filter (is_pruned policy (needed w x.relation.destination) x.source.snapshots) v.snapshots) ≡ idents (filter (goes w x) v.snapshots)
  goes_is = ap (λ (p : Policy). idents (filter (is_pruned p (needed w x.relation.destination) x.source.snapshots) v.snapshots)) (sym is.of_policy)
