-- How a leg begins: what is given, its plan, and the reason why it cannot begin.
use Rattle.std.specs.Prelude.{◌≡◌, ℕ, ◌≤◌, true, false, nat_lt, if◌then◌else◌, List, ◌∷◌, length, replicate, Result, Ok, Err, Option, Some, None}
use Rattle.std.specs.List.{find}
use Rattle.sm_base.specs.declared.numbers.Ident.{Ident}
use Rattle.sm_base.specs.declared.numbers.PolicyKind.{PolicyKind}
use Rattle.sm_base.specs.declared.refusal.Reason.{Reason}
use Rattle.sm_base.specs.declared.refusal.Reason.TheVariants as reasons
use Rattle.sm_defs.specs.Words.{same_ident}
use Rattle.sm_defs.specs.Image.{Image, tags}
use Rattle.sm_defs.specs.Missing.{Bases, vault_cost}
use Rattle.sm_defs.specs.Relationship.{is_mirror}
use Rattle.sm_defs.specs.Volume.{Volume, Snapshot, free, free_tags}
use Rattle.sm_root.specs.declared.root.Root.{Root}
use Rattle.sm_root.specs.declared.root.RootSnapshot.{RootSnapshot}
use Rattle.sm_relation.specs.declared.relation.Relation.{Relation}
use Rattle.sm_relation.specs.Shown.{relationship_of}
use Rattle.sm_volume.specs.Shown.{placed}
use Rattle.sm_select.specs.Planned.{Planned}
use Rattle.sm_select.specs.PlanLaws.{IsMirrorPlan, IsVaultPlan}
use Rattle.sm_model.specs.Running.{Running}
use Rattle.sm_model.specs.LegsFit.{IsUnderWay, FirstLegFits}
use Rattle.sm_model.specs.Steps.{snapshot_of, image_or_none, cost, landing, bases}
use Rattle.sm_model.specs.Due.{reason_if, ship_reason}
use Rattle.sm_transfer.specs.declared.fault.StepFault.{StepFault}
use Rattle.sm_transfer.specs.declared.fault.StepFault.TheVariants.{Stopped, DiskFault, NoMemory}
use Rattle.sm_transfer.specs.Sending.{Sending, begun}

-- x is the relationship with its transfer, a policy of this kind and these two volumes
pub record IsGiven (x : Running) (kind : PolicyKind) (relation : Relation) (source destination : Volume) : Type 0 where
  pub of_relation : x.relation ≡ relationship_of x.transfer.landed x.transfer.pruned relation
  pub transfer : x.relation.transfer ≡ Some x.transfer
  pub policy : x.policy.kind ≡ kind
  pub of_source : x.source ≡ placed x.source.path x.source.disk source
  pub of_destination : x.destination ≡ placed x.destination.path x.destination.disk destination

-- its first leg is this one of the source, of two volumes whose sizes agree; if something of it was shipped, it fits
pub record MayBegin (x : Running) (leg : Snapshot) : Type 0 where
  pub first : Ident
  pub later : List Ident
  pub legs : x.transfer.legs ≡ first ∷ later
  pub leg_is : snapshot_of x.source.snapshots (Some first) ≡ Some leg
  pub logical : x.source.logical ≡ x.destination.logical
  pub physical : is_mirror x.policy.kind ≡ true → x.source.physical ≡ x.destination.physical
  pub fits : IsUnderWay x.transfer → FirstLegFits x first

abbrev pub CanBegin : PolicyKind → Relation → Volume → Volume → Running → Snapshot → Type 0
CanBegin kind relation source destination x leg = IsGiven x kind relation source destination × MayBegin x leg

-- the base as two volumes have it
abbrev pub bases_of : Option Ident → Volume → Volume → Bases
bases_of base source destination = record {
  at_source = image_or_none (snapshot_of source.snapshots base);
  at_destination = image_or_none (snapshot_of destination.snapshots base);
}

-- a vault's plan, which has a free number for each block
pub record HasRoom (leg : Image) (both : Bases) (free : List ℕ) (plan : Planned) : Type 0 where
  pub vault : IsVaultPlan leg both free plan
  pub enough : vault_cost leg both ≤ length free

-- the plan of a leg's kind, by the definitions of what is missing and of what lands
abbrev pub IsPlanOf : PolicyKind → Image → Bases → Volume → Planned → Type 0
IsPlanOf kind leg both destination plan =
    (is_mirror kind ≡ true → IsMirrorPlan leg destination.snapshots plan) × (is_mirror kind ≡ false → HasRoom leg both (free_tags destination) plan)

-- the plan of a transfer's leg
pub record IsLegPlan (x : Running) (leg : Snapshot) (plan : Planned) : Type 0 where
  pub is_plan : IsPlanOf x.policy.kind leg.image (bases x) x.destination plan
  pub costs : length plan.pairs ≡ cost x leg
  pub lands : plan.map ≡ tags (landing x leg)
  pub room : is_mirror x.policy.kind ≡ false → cost x leg ≤ free x.destination

-- It goes on exactly where there is no reason, and is stopped for that reason else; it may want memory.
abbrev pub GoesOrStops : {A : Type 0} → (A → Type 0) → Option Reason → Result A StepFault → Type 0
GoesOrStops P reason (Ok x) = (reason ≡ None) × P x
GoesOrStops P reason (Err (Stopped r)) = reason ≡ Some r
GoesOrStops P reason (Err (DiskFault v)) = ⊥
GoesOrStops P reason (Err NoMemory) = Unit {0}

-- a vault has no room for its leg
abbrev pub room_reason : ℕ → ℕ → Option Reason
room_reason need free = reason_if (nat_lt free need) (reasons.NoSpace need free) None

-- a mirror always has room: it lands at its own numbers
abbrev pub leg_reason : PolicyKind → Image → Bases → Volume → Option Reason
leg_reason kind leg both destination = if is_mirror kind then None else room_reason (vault_cost leg both) (free destination)

-- the transfer of the leg's plan, from its checkpoint
pub record IsBegun (x : Running) (leg : Snapshot) (t : Sending) : Type 0 where
  pub planned : IsLegPlan x leg t.plan
  pub runs : t ≡ begun t.plan x.transfer.checkpoint

-- it begins exactly where the definitions give no reason for its first Ship
abbrev pub Begins : Running → Snapshot → Result Sending StepFault → Type 0
Begins x leg result = GoesOrStops (IsBegun x leg) (ship_reason x (cost x leg)) result

-- ---- what a root says of it

abbrev pub found_in : List RootSnapshot → Option Ident → Option RootSnapshot
found_in ss None = None
found_in ss (Some i) = find (λ s. same_ident s.ident i) ss

abbrev pub numbers_or_holes : ℕ → Option RootSnapshot → List ℕ
numbers_or_holes logical None = replicate logical 0
numbers_or_holes logical (Some s) = s.map

-- the numbers of the root's snapshot of the base, or holes
abbrev pub base_numbers : Root → Option Ident → List ℕ
base_numbers root base = numbers_or_holes root.logical (found_in root.snapshots base)
