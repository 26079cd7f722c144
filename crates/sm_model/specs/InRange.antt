-- Which events a script or a report can ask for.
use Rattle.std.specs.Prelude.{◌≡◌, ◌==◌, ℕ, ◌+◌, ◌<◌, ◌≤◌, true, false, List, length, codes, Bool, Option, Some, None}
use Rattle.std.specs.List.{starts_with}
use Rattle.sm_base.specs.Name.{is_part, is_path, is_label, is_snapshot_name}
use Rattle.sm_model.specs.declared.event.Event.{Event}
use Rattle.sm_model.specs.declared.event.Event.TheVariants as events
use Rattle.sm_base.specs.declared.limits.TheConstants.{MOST_LOGICAL, MOST_PHYSICAL, LAST_SECOND}
use Rattle.sm_defs.specs.Words.{Among}
use Rattle.sm_defs.specs.Relationship.{Relationship}
use Rattle.sm_defs.specs.World.{Up, volume_at}

-- names that only transfers give
abbrev pub is_made_name : List ℕ → Bool
is_made_name name = starts_with (λ a b. a == b) name (codes "snapmirror.")

abbrev pub IsNumber : ℕ → Type 0
IsNumber n = n ≤ 4294967295

abbrev pub IsPath : List ℕ → Type 0
IsPath path = is_path path ≡ true

abbrev pub IsLabel : Option (List ℕ) → Type 0
IsLabel None = Unit {0}
IsLabel (Some label) = is_label label ≡ true

abbrev pub IsName : Option (List ℕ) → Type 0
IsName None = Unit {0}
IsName (Some name) = is_snapshot_name name ≡ true

pub record IsCreation (path : List ℕ) (disk logical physical : ℕ) : Type 0 where
  pub path_given : IsPath path
  pub disk_given : IsNumber disk
  pub some_blocks : 1 ≤ logical
  pub few_blocks : logical ≤ MOST_LOGICAL
  pub room : logical ≤ physical
  pub few_places : physical ≤ MOST_PHYSICAL

pub record IsWrite (path : List ℕ) (block fill : ℕ) : Type 0 where
  pub path_given : IsPath path
  pub block_given : block ≤ 4294967295 + 4095
  pub byte : fill ≤ 255

pub record IsSnap (path name : List ℕ) (label : Option (List ℕ)) : Type 0 where
  pub path_given : IsPath path
  pub name_given : is_snapshot_name name ≡ true
  pub clients : is_made_name name ≡ false
  pub label_given : IsLabel label

pub record IsRead (path : List ℕ) (name : Option (List ℕ)) (block : ℕ) : Type 0 where
  pub path_given : IsPath path
  pub name_given : IsName name
  pub block_given : IsNumber block

pub record IsNamed (path name : List ℕ) : Type 0 where
  pub path_given : IsPath path
  pub name_given : is_snapshot_name name ≡ true

pub record IsRuleGiven (name label : List ℕ) (keep : ℕ) : Type 0 where
  pub policy_given : is_part name ≡ true
  pub label_given : is_label label ≡ true
  pub keep_given : IsNumber keep

pub record IsRelating (source destination policy : List ℕ) : Type 0 where
  pub source_given : IsPath source
  pub destination_given : IsPath destination
  pub policy_given : is_part policy ≡ true

pub record IsReleasing (source destination : List ℕ) : Type 0 where
  pub source_given : IsPath source
  pub destination_given : IsPath destination

-- some line of a script, a worker, or the report gives the event
unfoldable pub IsGiven : Event → Type 0
IsGiven (events.CreateVolume path disk kind logical physical) = IsCreation path disk.0 logical physical
IsGiven events.ShowVolumes = Unit {0}
IsGiven (events.Write path block fill) = IsWrite path block fill
IsGiven (events.Snap path name label) = IsSnap path name label
IsGiven (events.Unsnap path name) = IsNamed path name
IsGiven (events.ShowSnaps path) = IsPath path
IsGiven (events.CreatePolicy name kind) = is_part name ≡ true
IsGiven (events.AddRule name label keep preserve) = IsRuleGiven name label keep
IsGiven events.ShowPolicies = Unit {0}
IsGiven (events.Relate source destination policy) = IsRelating source destination policy
IsGiven (events.Initialize destination) = IsPath destination
IsGiven (events.Update destination) = IsPath destination
IsGiven (events.Quiesce destination) = IsPath destination
IsGiven (events.Resume destination) = IsPath destination
IsGiven (events.Abort destination hard) = IsPath destination
IsGiven (events.Break destination) = IsPath destination
IsGiven (events.Resync destination) = IsPath destination
IsGiven (events.Delete destination) = IsPath destination
IsGiven (events.Release source destination) = IsReleasing source destination
IsGiven events.ShowRelations = Unit {0}
IsGiven (events.Clock time) = time ≤ LAST_SECOND
IsGiven (events.Cp path) = IsPath path
IsGiven (events.Read path name block) = IsRead path name block
IsGiven (events.Work shown) = Unit {0}
IsGiven events.Restart = Unit {0}
IsGiven events.Head = Unit {0}
IsGiven (events.VolumeLine volume) = Unit {0}
IsGiven (events.Digest volume place) = Unit {0}
IsGiven (events.RelationLine relation) = Unit {0}

abbrev pub IsPlace : ℕ → Option ℕ → Type 0
IsPlace count None = Unit {0}
IsPlace count (Some k) = k < count

-- a relationship of the number stands
abbrev pub HasRelation : Up → ℕ → Type 0
HasRelation w number = (r : Relationship) × Among w.relations r × (r.number ≡ number)

-- what an event of the report speaks of stands in the world
unfoldable pub IsThere : Up → Event → Type 0
IsThere w (events.VolumeLine volume) = volume.0 < length w.volumes
IsThere w (events.Digest volume place) = (volume.0 < length w.volumes) × IsPlace (length (volume_at w volume.0).snapshots) place
IsThere w (events.RelationLine relation) = HasRelation w relation.0
IsThere w _ = Unit {0}
