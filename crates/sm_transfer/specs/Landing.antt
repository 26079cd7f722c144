-- What has landed at the destination, and that it stays there.
use Rattle.std.specs.Prelude.{◌≡◌, ℕ, ◌≤◌, ◌<◌, Bool, true, false, List, length, map, Result, Some, slice_get, IfOk, IsTrue}
use Rattle.sm_base.specs.declared.numbers.PolicyKind.{PolicyKind}
use Rattle.sm_defs.specs.Words.{Among}
use Rattle.sm_defs.specs.Image.{Block, Image, stands, tags}
use Rattle.sm_defs.specs.Missing.{Bases, tags_in, missing_tags, missing_places, vault_landing}
use Rattle.sm_defs.specs.Relationship.{is_mirror}
use Rattle.sm_defs.specs.Volume.{Volume, Snapshot, images_of, tags_of, numbers, free_tags}
use Rattle.sm_disk.specs.Image as disk
use Rattle.sm_disk.specs.Disk.{DiskState, GoesOn}
use Rattle.sm_relation.specs.declared.relation.Relation.{Relation}
use Rattle.sm_select.specs.Planned.{Planned}
use Rattle.sm_model.specs.Running.{Running}
use Rattle.sm_model.specs.Steps.{bases, cost, may_ship}
use Rattle.volume_store.specs.Held.{block_at}
use Rattle.volume_store.specs.Maps.{AreMapsOf}
use Rattle.sm_volume.specs.Assigned.{HasBlock}
use Rattle.sm_volume.specs.Kept.{IsKept}
use Rattle.sm_volume.specs.Mounted.{Mounted}
use Rattle.sm_volume.specs.Shown.{Selects}
use Rattle.sm_transfer.specs.declared.fault.StepFault.{StepFault}
use Rattle.sm_transfer.specs.Beginning.{CanBegin, IsLegPlan}
use Rattle.sm_transfer.specs.Sending.{Sending, IsUnderWay, from_of, to_of}
use Rattle.sm_transfer.specs.Shipping.{IsShippable, ShipsAt, Checks}

-- The blocks of these indexes lie on the image at the destination's numbers, with the bytes that the source has.
abbrev pub HasLanded : Planned → List ℕ → Volume → disk.Image → Type 0
HasLanded plan landed source c = (k : ℕ) (b : Block) → Among landed k → HasBlock source b → b.tag ≡ from_of plan k → block_at c (to_of plan k) ≡ b.bytes

-- no two blocks land at one number, and none at the hole
pub record LandApart (plan : Planned) : Type 0 where
  pub apart : (j k : ℕ) → j < length plan.pairs → k < length plan.pairs → to_of plan j ≡ to_of plan k → j ≡ k
  pub from_one : (k : ℕ) → k < length plan.pairs → 1 ≤ to_of plan k

module _ {D : Type 0} (state : D → DiskState) where
  -- what is read has what landed, with the block that was shipped; each image keeps what landed below the checkpoint,
  -- at any moment, and selects the destination as it was
  pub record ShipGoesOn (t u : Sending) (s d d' : Mounted D) : Type 0 where
    pub reads : HasLanded t.plan t.landed s.volume (state d.disk).seen → HasLanded t.plan u.landed s.volume (state d'.disk).seen
    pub left : ((c : disk.Image) → (state d.disk).may_leave c → HasLanded t.plan (numbers 0 t.checkpoint) s.volume c)
        → (c : disk.Image) → (state d'.disk).may_leave c → HasLanded t.plan (numbers 0 t.checkpoint) s.volume c
    pub any_moment : ((c : disk.Image) → (state d.disk).may_leave c → HasLanded t.plan (numbers 0 t.checkpoint) s.volume c)
        → GoesOn (state d.disk) (state d'.disk) (λ c. Selects d.selected d.number d.volume c × HasLanded t.plan (numbers 0 t.checkpoint) s.volume c)

  -- whatever a Ship answers, where both disks tell their content
  abbrev pub ShipKeepsWhatLanded : Type 0
  ShipKeepsWhatLanded = (t u : Sending) (index : ℕ) (result : Result (Unit {0}) StepFault) (s s' d d' : Mounted D) →
      IsUnderWay t → LandApart t.plan → IsShippable t index s.volume d.volume → IsKept state s → IsTrue (state s.disk).told → IsTrue (state d.disk).told →
      ShipsAt state t index result u s s' d d' → ShipGoesOn t u s d d'

  -- after a checkpoint that answers Ok each image has all that it counts
  abbrev pub CheckpointKeepsWhatLanded : Type 0
  CheckpointKeepsWhatLanded = (t u : Sending) (result : Result ℕ StepFault) (source : Volume) (d d' : Mounted D) →
      HasLanded t.plan t.landed source (state d.disk).seen → Checks state result t u d d' →
      IfOk result (λ n. (u.checkpoint ≡ n) × ((c : disk.Image) → (state d'.disk).may_leave c → HasLanded u.plan (numbers 0 n) source c))

-- ---- in the words of the definitions

-- the index's block, of those that a mirror's leg lacks there
abbrev pub OfMirror : Image → List Snapshot → ℕ → Block → Type 0
OfMirror leg there k b = (slice_get (missing_tags leg there) k ≡ Some b.tag) × Among leg b

-- and of a vault's, as it lands there
abbrev pub OfVault : Image → Bases → List ℕ → ℕ → Block → Type 0
OfVault leg both free k b = (p : ℕ) × (slice_get (missing_places leg both) k ≡ Some p) × (slice_get (vault_landing leg both free) p ≡ Some b)

abbrev pub LandsAs : Bool → Running → Snapshot → ℕ → Block → Type 0
LandsAs true x leg k b = OfMirror leg.image x.destination.snapshots k b
LandsAs false x leg k b = OfVault leg.image (bases x) (free_tags x.destination) k b

-- each index of the landed set has the leg's bytes at the number of its block
abbrev pub LegHasLanded : Running → Snapshot → List ℕ → disk.Image → Type 0
LegHasLanded x leg landed c = (k : ℕ) (b : Block) → Among landed k → LandsAs (is_mirror x.policy.kind) x leg k b → block_at c b.tag ≡ b.bytes

-- what landed by the plan of a leg is what the definitions ask
abbrev pub WhatLandedIsTheLegs : Type 0
WhatLandedIsTheLegs = (x : Running) (leg : Snapshot) (plan : Planned) (landed : List ℕ) (c : disk.Image) →
    Among x.source.snapshots leg → IsLegPlan x leg plan → HasLanded plan landed x.source c → LegHasLanded x leg landed c

abbrev pub LegsLandApart : Type 0
LegsLandApart = (x : Running) (leg : Snapshot) (plan : Planned) → IsLegPlan x leg plan → LandApart plan

-- each number that the volume uses is one of a snapshot's, as on a destination that stands at a snapshot
abbrev pub StandsBySnapshots : Volume → Type 0
StandsBySnapshots v = (n : ℕ) → 1 ≤ n → stands n (tags_of v) ≡ true → stands n (tags_in v.snapshots) ≡ true

-- an index of a leg's plan that has not landed is one that a Ship takes
abbrev pub PlannedShipsFit : Type 0
PlannedShipsFit = (kind : PolicyKind) (relation : Relation) (source destination : Volume) (x : Running) (leg : Snapshot) (t : Sending) (index : ℕ) →
    CanBegin kind relation source destination x leg → AreMapsOf source.logical source.physical (map tags (images_of source)) → (is_mirror kind ≡ true → StandsBySnapshots destination) →
    IsLegPlan x leg t.plan → index < length t.plan.pairs → stands index t.landed ≡ false → IsShippable t index source destination

-- so is each that may be shipped by the definitions
abbrev pub DueShipsFit : Type 0
DueShipsFit = (x : Running) (leg : Snapshot) (t : Sending) (index : ℕ) → IsLegPlan x leg t.plan → t.landed ≡ x.transfer.landed → may_ship x (cost x leg) index ≡ true →
    (index < length t.plan.pairs) × (stands index t.landed ≡ false)
