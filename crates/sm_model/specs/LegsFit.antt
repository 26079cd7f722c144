-- What has been shipped of a transfer's legs still fits.
use Rattle.std.specs.Prelude.{◌≡◌, ◌≢◌, ℕ, ◌≤◌, ◌<◌, ◌+◌, ◌⊎◌, true, false, List, [], ◌∷◌, Some, None, slice_get}
use Rattle.sm_base.specs.declared.numbers.Ident.{Ident}
use Rattle.sm_defs.specs.Words.{Among, Ascends}
use Rattle.sm_defs.specs.Image.{Block}
use Rattle.sm_base.specs.declared.limits.TheConstants.{WINDOW}
use Rattle.sm_defs.specs.Volume.{Snapshot, has, free}
use Rattle.sm_defs.specs.Relationship.{Transfer, is_mirror}
use Rattle.sm_defs.specs.World.{Up}
use Rattle.sm_model.specs.Running.{Running, running_in}
use Rattle.sm_model.specs.Steps.{snapshot_of, cost}
use Rattle.sm_model.specs.Standing.{EachTransfer}

-- something of the first leg was shipped
abbrev pub IsUnderWay : Transfer → Type 0
IsUnderWay t = (t.checkpoint ≢ 0) ⊎ (t.landed ≢ [])

-- a mirror was pruned for what it ships
abbrev pub IsChecked : Transfer → Type 0
IsChecked t = (t.pruned ≡ true) ⊎ (t.checkpoint ≢ 0)

-- a number that the leg and the snapshot share stands at one place with the same block
abbrev pub Agree : Snapshot → Snapshot → Type 0
Agree s t = (p q : ℕ) (b c : Block) → slice_get s.image p ≡ Some b → slice_get t.image q ≡ Some c → b.tag ≡ c.tag → b.tag ≢ 0 → (p ≡ q) × (b ≡ c)

pub record FitsSource (x : Running) : Type 0 where
  pub there : (i : Ident) → Among x.transfer.legs i → has x.source.snapshots i ≡ true
  pub agree : (s t : Snapshot) → Among x.source.snapshots s → Among x.transfer.legs s.ident → Among x.destination.snapshots t → Agree s t

-- the first leg, that the destination lacks
pub record FirstLegFits (x : Running) (i : Ident) : Type 0 where
  pub there : has x.source.snapshots i ≡ true
  pub checkpoint : (leg : Snapshot) → snapshot_of x.source.snapshots (Some i) ≡ Some leg → x.transfer.checkpoint ≤ cost x leg
  pub landed : (leg : Snapshot) (k : ℕ) → snapshot_of x.source.snapshots (Some i) ≡ Some leg → Among x.transfer.landed k → k < cost x leg
  pub room : (leg : Snapshot) → snapshot_of x.source.snapshots (Some i) ≡ Some leg → is_mirror x.policy.kind ≡ false → cost x leg ≤ free x.destination

abbrev pub FirstFits : Running → List Ident → Type 0
FirstFits x [] = Unit {0}
FirstFits x (i ∷ is) = has x.destination.snapshots i ≡ false → IsUnderWay x.transfer → FirstLegFits x i

-- what landed ascends, with all that is below the checkpoint and nothing too far past it
pub record InWindow (t : Transfer) : Type 0 where
  pub ascends : Ascends t.landed
  pub below : (k : ℕ) → k < t.checkpoint → Among t.landed k
  pub near : (k : ℕ) → Among t.landed k → k < t.checkpoint + WINDOW

pub record LegsFitFor (x : Running) : Type 0 where
  pub mirror : is_mirror x.policy.kind ≡ true → IsChecked x.transfer → FitsSource x
  pub fresh : is_mirror x.policy.kind ≡ true → x.transfer.pruned ≡ false → x.transfer.checkpoint ≡ 0 → x.transfer.landed ≡ []
  pub first : FirstFits x x.transfer.legs
  pub window : x.transfer.stopped ≡ None → InWindow x.transfer

abbrev pub LegsFit : Up → Type 0
LegsFit w = EachTransfer (λ r t. LegsFitFor (running_in w r t)) w
