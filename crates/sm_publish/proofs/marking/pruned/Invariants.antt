use Rattle.std.proofs.Common.{◌≡◌, Bool, List, map, take}
use Rattle.std.specs.Prelude.{is_some}
use Rattle.std.specs.List.{filter}
use Rattle.sm_base.specs.declared.numbers.Ident.{Ident}
use Rattle.sm_defs.specs.Volume.{Snapshot, idents}
use Rattle.sm_defs.specs.Pruning.{is_pruned}
use Rattle.sm_policy.specs.Marks.{needed_marks}
use Rattle.sm_root.specs.Condition.{ident_of}
use Rattle.sm_volume.specs.Seen.{kept_snapshot}
use Rattle.sm_publish.proofs.marking.pruned.Given as goal

abbrev pub invariant-loop-at : goal.invariant-loop-at
invariant-loop-at l = (needs : Ident → Bool) (there ss : List Snapshot) → map ident_of l.source ≡ idents there → l.snapshots ≡ map kept_snapshot ss → map is_some l.holders ≡ needed_marks needs ss →
    l.drops.items ≡ idents (filter (is_pruned l.policy needs there) (take l.at ss))
