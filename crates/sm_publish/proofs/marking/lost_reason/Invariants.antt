use Rattle.std.proofs.Common.{◌≡◌, List, map, take, Option, None}
use Rattle.sm_base.specs.declared.numbers.Ident.{Ident}
use Rattle.sm_defs.specs.Relationship.{Relationship}
use Rattle.sm_defs.specs.Volume.{Snapshot, idents}
use Rattle.sm_root.specs.Condition.{ident_of}
use Rattle.sm_volume.specs.Seen.{kept_snapshot}
use Rattle.sm_publish.specs.Dropping.{holders_of, lost_reason}
use Rattle.sm_publish.proofs.marking.lost_reason.Given as goal

abbrev pub invariant-loop-at : goal.invariant-loop-at
invariant-loop-at l = (who : Ident → Option Relationship) (there ss : List Snapshot) → map ident_of l.source ≡ idents there → l.snapshots ≡ map kept_snapshot ss → l.holders ≡ holders_of who ss → lost_reason who there (take l.at ss) ≡ None
