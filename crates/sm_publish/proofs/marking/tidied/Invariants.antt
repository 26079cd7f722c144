use Rattle.std.proofs.Common.{◌≡◌, Bool, List, map, take}
use Rattle.std.specs.List.{filter}
use Rattle.sm_base.specs.declared.numbers.Ident.{Ident}
use Rattle.sm_defs.specs.Volume.{Snapshot, idents}
use Rattle.sm_policy.specs.Marks.{needed_marks}
use Rattle.sm_volume.specs.Seen.{kept_snapshot}
use Rattle.sm_publish.specs.Dropping.{tidied_by}
use Rattle.sm_publish.proofs.marking.tidied.Given as goal

abbrev pub invariant-loop-at : goal.invariant-loop-at
invariant-loop-at l = (needs : Ident → Bool) (ss : List Snapshot) → l.snapshots ≡ map kept_snapshot ss → l.needed ≡ needed_marks needs ss → l.drops.items ≡ idents (filter (tidied_by l.volume.0 needs) (take l.at ss))
