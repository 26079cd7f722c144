-- The steps that only let snapshots go: Tidy and Prune.
use Rattle.std.specs.Prelude.{◌≡◌, ◌==◌, ◌&&◌, not, ℕ, Bool, List, map, Option, None, option_map, Result}
use Rattle.std.specs.List.{filter, list_any}
use Rattle.sm_base.specs.declared.numbers.Ident.{Ident}
use Rattle.sm_base.specs.declared.numbers.RelNo.{RelNo}
use Rattle.sm_base.specs.declared.refusal.Reason.{Reason}
use Rattle.sm_defs.specs.Needed.{holder}
use Rattle.sm_defs.specs.Relationship.{Policy, Relationship}
use Rattle.sm_defs.specs.Volume.{Volume, Snapshot, has, without}
use Rattle.sm_defs.specs.Pruning.{is_made}
use Rattle.sm_defs.specs.World.{Up}
use Rattle.sm_disk.specs.Disk.{DiskState}
use Rattle.sm_root.specs.declared.root.Root.{Root}
use Rattle.sm_relation.specs.Shown.{IsRootOf}
use Rattle.sm_volume.specs.Mounted.{Mounted}
use Rattle.sm_volume.specs.Shown.{placed}
use Rattle.sm_model.specs.Answers.{relno}
use Rattle.sm_model.specs.Due.{dropped, goes, held_reason, is_tidied, prune_reason}
use Rattle.sm_model.specs.OfTransfers.{first_held}
use Rattle.sm_model.specs.Running.{Running}
use Rattle.sm_transfer.specs.declared.fault.StepFault.{StepFault}
use Rattle.sm_publish.specs.Committing.{StepsTo}

-- What passes the test goes, by one commit where there is any, and how many went is told.
abbrev pub Drops : {D : Type 0} → (D → DiskState) → (Snapshot → Bool) → Option Reason → Result ℕ StepFault → Mounted D → Mounted D → Type 0
Drops state test reason result old new =
    StepsTo state (list_any test old.volume.snapshots) reason (dropped old.volume.snapshots (without test old.volume).snapshots) (without test old.volume) result old new

-- a transfer made it on the volume of the number, and it is not needed
abbrev pub tidied_by : ℕ → (Ident → Bool) → Snapshot → Bool
tidied_by number needs s = is_made s && (s.ident.origin == number) && not (needs s.ident)

-- a volume of the world is tidied
abbrev pub Tidies : {D : Type 0} → (D → DiskState) → Up → Result ℕ StepFault → Mounted D → Mounted D → Type 0
Tidies state w result old new = Drops state (is_tidied w old.number.0) None result old new

-- the lowest relationship that needs a snapshot, by its number
abbrev pub holder_number : (Ident → Option Relationship) → Snapshot → Option RelNo
holder_number who s = option_map (λ r. relno r.number) (who s.ident)

abbrev pub holders_of : (Ident → Option Relationship) → List Snapshot → List (Option RelNo)
holders_of who ss = map (holder_number who) ss

-- what the list has and the source lacks
abbrev pub lost_from : List Snapshot → List Snapshot → List Snapshot
lost_from source ss = filter (λ s. not (has source s.ident)) ss

-- the first of these that is needed
abbrev pub lost_reason : (Ident → Option Relationship) → List Snapshot → List Snapshot → Option Reason
lost_reason who source ss = held_reason (first_held who (lost_from source ss)) None

-- x is a transfer of the world with this policy, from a volume of this root to this volume, and these need the snapshots there
pub record IsPruneOf (w : Up) (x : Running) (policy : Policy) (holders : List (Option RelNo)) (source : Root) (destination : Volume) : Type 0 where
  pub of_policy : x.policy ≡ policy
  pub of_source : IsRootOf source x.source
  pub of_destination : x.destination ≡ placed x.destination.path x.destination.disk destination
  pub of_holders : holders ≡ holders_of (holder w x.relation.destination) destination.snapshots

-- its destination is pruned
abbrev pub Prunes : {D : Type 0} → (D → DiskState) → Up → Running → Result ℕ StepFault → Mounted D → Mounted D → Type 0
Prunes state w x result old new = Drops state (goes w x) (prune_reason w x) result old new
