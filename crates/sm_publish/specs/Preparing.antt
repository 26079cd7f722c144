-- Prepare: the source is given the snapshot that a transfer makes.
use Rattle.std.specs.Prelude.{◌≡◌, ℕ, ◌<◌, true, false, Some, Result}
use Rattle.sm_base.specs.declared.limits.TheConstants.{LAST_NUMBER}
use Rattle.sm_base.specs.declared.numbers.Ident.{Ident}
use Rattle.sm_defs.specs.Legs.{made_ident}
use Rattle.sm_defs.specs.Made.{made_name}
use Rattle.sm_defs.specs.Operations.{has_name, with_snapshot}
use Rattle.sm_defs.specs.Volume.{Volume, has}
use Rattle.sm_defs.specs.World.{Up}
use Rattle.sm_disk.specs.Disk.{DiskState}
use Rattle.sm_relation.specs.declared.relation.Relation.{Relation}
use Rattle.sm_relation.specs.declared.relation.Standing.{Standing}
use Rattle.sm_relation.specs.Shown.{relationship_of}
use Rattle.sm_volume.specs.Mounted.{Mounted}
use Rattle.sm_volume.specs.Shown.{placed}
use Rattle.sm_model.specs.Due.{prepare_reason, reserved_leg}
use Rattle.sm_model.specs.Running.{Running}
use Rattle.sm_model.specs.Steps.{prepared_snapshot}
use Rattle.sm_transfer.specs.declared.fault.StepFault.{StepFault}
use Rattle.sm_publish.specs.Committing.{StepsTo}

-- the relationship's transfer, whose own snapshot the source has neither by its identity nor by its name
pub record MayPrepare (relation : Relation) (t : Standing) (source : Volume) : Type 0 where
  pub transfer : relation.transfer ≡ Some t
  pub counted : t.number < LAST_NUMBER
  pub fresh : has source.snapshots (made_ident relation.source.0 t.number) ≡ false
  pub unnamed : has_name source.snapshots (made_name relation.number.0 t.number) ≡ false

-- x is the relationship with its transfer, from this volume, in a world of this time
pub record IsPrepareOf (w : Up) (x : Running) (relation : Relation) (time : ℕ) (source : Volume) : Type 0 where
  pub of_relation : x.relation ≡ relationship_of x.transfer.landed x.transfer.pruned relation
  pub of_transfer : x.relation.transfer ≡ Some x.transfer
  pub of_source : x.source ≡ placed x.source.path x.source.disk source
  pub of_time : w.clock ≡ time

-- its source gets the snapshot, at a consistency point
abbrev pub Prepares : {D : Type 0} → (D → DiskState) → Up → Running → Result Ident StepFault → Mounted D → Mounted D → Type 0
Prepares state w x result old new =
    StepsTo state true (prepare_reason x) (reserved_leg x) (with_snapshot old.volume (prepared_snapshot w x (reserved_leg x))) result old new
