-- Which refusals each event can meet. Any event can meet a disk that fails, or a node that is down, beside these.
use Rattle.std.specs.Prelude.{◌≡◌, ◌⊎◌, ℕ, ◌<◌, List, [], ◌∷◌, Option, Some}
use Rattle.sm_base.specs.declared.numbers.Ident.{Ident}
use Rattle.sm_base.specs.declared.numbers.RelNo.{RelNo}
use Rattle.sm_base.specs.declared.refusal.Refusal.{Refusal}
use Rattle.sm_base.specs.declared.refusal.Refusal.TheVariants as refusals
use Rattle.sm_base.specs.declared.refusal.What.TheVariants.{Volumes, Policies, Relations, Transfers}
use Rattle.sm_defs.specs.Words.{Among}
use Rattle.sm_model.specs.declared.event.Event.{Event}
use Rattle.sm_model.specs.declared.event.Event.TheVariants as events
use Rattle.sm_defs.specs.Volume.{length_needed}

-- the disk has so many bytes, which are too few
abbrev pub IsTooSmall : ℕ → Refusal → Type 0
IsTooSmall physical r = (len : ℕ) × (len < length_needed physical) × (r ≡ refusals.DiskSmall (length_needed physical) len)

-- a name was given, and no snapshot has it
abbrev pub LacksName : Option (List ℕ) → Refusal → Type 0
LacksName given r = (name : List ℕ) × (given ≡ Some name) × (r ≡ refusals.NoSnapshot name)

-- some relationship needs what would go
abbrev pub IsHeld : Refusal → Type 0
IsHeld r = (relation : RelNo) × (r ≡ refusals.Held relation)

abbrev pub IsHeldDownstream : Refusal → Type 0
IsHeldDownstream r = (ident : Ident) × (relation : RelNo) × (r ≡ refusals.HeldDownstream ident relation)

-- some relationship has the destination
abbrev pub IsDestination : Refusal → Type 0
IsDestination r = (relation : RelNo) × (r ≡ refusals.AlreadyDestination relation)

-- a rule that preserves is full
abbrev pub IsKeepReached : Refusal → Type 0
IsKeepReached r = (label : List ℕ) × (r ≡ refusals.KeepReached label)

-- the clock is past the time
abbrev pub IsClockBack : ℕ → Refusal → Type 0
IsClockBack time r = (now : ℕ) × (time < now) × (r ≡ refusals.ClockBack now)

-- tables and the report meet none; a worker's step and a restart have no answer that refuses
unfoldable pub IsListed : Event → Refusal → Type 0
IsListed (events.CreateVolume path disk kind logical physical) r =
    Among (refusals.NameTaken ∷ refusals.NoDisk disk ∷ refusals.DiskTaken ∷ refusals.Full Volumes ∷ []) r ⊎ IsTooSmall physical r
IsListed (events.Write path block fill) r = Among (refusals.NoVolume path ∷ refusals.ReadOnly ∷ refusals.BadBlock ∷ refusals.NoSpace ∷ []) r
IsListed (events.Snap path name label) r = Among (refusals.NoVolume path ∷ refusals.ReadOnly ∷ refusals.NameTaken ∷ refusals.SnapFull ∷ []) r
IsListed (events.Unsnap path name) r = Among (refusals.NoVolume path ∷ refusals.NoSnapshot name ∷ refusals.ReadOnly ∷ []) r ⊎ IsHeld r
IsListed (events.ShowSnaps path) r = r ≡ refusals.NoVolume path
IsListed (events.CreatePolicy name kind) r = Among (refusals.NameTaken ∷ refusals.Full Policies ∷ []) r
IsListed (events.AddRule name label keep preserve) r =
    Among (refusals.NoPolicy name ∷ refusals.WrongRule ∷ refusals.BadKeep ∷ refusals.RuleTaken ∷ refusals.RulesFull ∷ []) r
IsListed (events.Relate source destination policy) r =
    Among (refusals.NoVolume source ∷ refusals.NoVolume destination ∷ refusals.NoPolicy policy ∷ refusals.SizeMismatch ∷ refusals.Cycle ∷ refusals.Full Relations ∷ []) r ⊎ IsDestination r
IsListed (events.Initialize destination) r =
    Among (refusals.NoVolume destination ∷ refusals.NoRelation destination ∷ refusals.Writable ∷ refusals.Initialized ∷ refusals.Quiesced ∷ refusals.Transferring
    ∷ refusals.Full Transfers ∷ []) r ⊎ IsKeepReached r
IsListed (events.Update destination) r =
    Among (refusals.NoVolume destination ∷ refusals.NoRelation destination ∷ refusals.Writable ∷ refusals.Uninitialized ∷ refusals.Quiesced ∷ refusals.Transferring
    ∷ refusals.OtherLayout ∷ refusals.Full Transfers ∷ []) r ⊎ IsKeepReached r
IsListed (events.Quiesce destination) r = Among (refusals.NoVolume destination ∷ refusals.NoRelation destination ∷ []) r
IsListed (events.Resume destination) r = Among (refusals.NoVolume destination ∷ refusals.NoRelation destination ∷ []) r
IsListed (events.Abort destination hard) r = Among (refusals.NoVolume destination ∷ refusals.NoRelation destination ∷ refusals.NoTransfer ∷ []) r
IsListed (events.Break destination) r =
    Among (refusals.NoVolume destination ∷ refusals.NoRelation destination ∷ refusals.Writable ∷ refusals.Uninitialized ∷ refusals.Transferring ∷ []) r
IsListed (events.Resync destination) r =
    Among (refusals.NoVolume destination ∷ refusals.NoRelation destination ∷ refusals.NotBroken ∷ refusals.Transferring ∷ refusals.OtherLayout ∷ refusals.Cycle
    ∷ refusals.NoCommon ∷ refusals.Full Transfers ∷ []) r ⊎ (IsHeldDownstream r ⊎ IsKeepReached r)
IsListed (events.Delete destination) r = Among (refusals.NoVolume destination ∷ refusals.NoRelation destination ∷ refusals.Transferring ∷ []) r
IsListed (events.Release source destination) r =
    Among (refusals.NoVolume source ∷ refusals.NoVolume destination ∷ refusals.NoRelation destination ∷ refusals.Active ∷ refusals.Transferring ∷ []) r
IsListed (events.Clock time) r = IsClockBack time r
IsListed (events.Cp path) r = Among (refusals.NoVolume path ∷ refusals.ReadOnly ∷ []) r
IsListed (events.Read path name block) r = Among (refusals.NoVolume path ∷ refusals.BadBlock ∷ []) r ⊎ LacksName name r
IsListed _ r = ⊥
