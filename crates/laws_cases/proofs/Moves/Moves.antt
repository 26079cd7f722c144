-- What an event does to volumes and policies, or to the one relationship that it is for, with what holds where it does.
use Rattle.std.proofs.Common.{◌≡◌, ◌≢◌, ◌<◌, ℕ, Bool, true, false, List, [], ◌∷◌, length, Option, Some, None}
use Rattle.sm_base.specs.declared.numbers.Ident.{Ident}
use Rattle.sm_base.specs.declared.numbers.Kind.{Kind}
use Rattle.sm_base.specs.declared.numbers.Kind.TheVariants.{Rw, Dp}
use Rattle.sm_base.specs.declared.numbers.TransferKind.{TransferKind}
use Rattle.sm_base.specs.declared.numbers.TransferKind.TheVariants.{Resync}
use Rattle.sm_defs.specs.Words.{Among, Found, found}
use Rattle.sm_defs.specs.Volume.{Volume, Snapshot, has, new_volume}
use Rattle.sm_defs.specs.Relationship.{Rule, Policy, Relationship, Transfer}
use Rattle.sm_defs.specs.Common.{common}
use Rattle.sm_defs.specs.Edges.{edges}
use Rattle.sm_defs.specs.Needed.{holder}
use Rattle.sm_defs.specs.World.{Up, volume_at, policy_at, with_volume, with_relation}
use Rattle.sm_model.specs.Answers.{Reached, goes_to}
use Rattle.sm_model.specs.OfVolumes as volumes
use Rattle.sm_model.specs.OfPolicies as policies
use Rattle.sm_model.specs.OfRelations as relations
use Rattle.sm_model.specs.OfTransfers as transfers
use Rattle.laws_cases.proofs.Answers.Changes.{VolumeAt, WritableAt, RelationAt}
use Rattle.sm_defs.specs.Operations as operations
use Rattle.sm_defs.specs.Rules as rules
use Rattle.sm_defs.specs.Progress as progress

-- the policy that was found stands at its place
pub record PolicyAt (w : Up) (p : Found Policy) : Type 0 where
  pub within : p.at < length w.policies
  pub among : Among w.policies p.item
  pub at : policy_at w p.at ≡ p.item

-- all relationships stay as they are
pub data Aside (w : Up) : Up → Type 0 where
  nothing : Aside w w
  clock : (time : ℕ) → Aside w (policies.at_time w time)
  new_policy : (p : Policy) → Aside w (policies.with_new_policy w p)
  rule : (p : Found Policy) → PolicyAt w p → (r : Rule) → Aside w (policies.with_policy w p.at (rules.with_rule p.item r))
  creates : (path : List ℕ) (disk : ℕ) (kind : Kind) (logical physical : ℕ) → Aside w (volumes.with_new_volume w (new_volume path disk kind (length w.volumes) logical physical))
  writes : (v : Found Volume) → WritableAt w v → (block fill : ℕ) → Aside w (with_volume w v.at (volumes.written v.item block fill))
  drops : (v : Found Volume) → WritableAt w v → (s : Snapshot) → holder w v.at s.ident ≡ None → Aside w (with_volume w v.at (volumes.without_snapshot v.item s.ident))
  points : (v : Found Volume) → WritableAt w v → Aside w (with_volume w v.at (operations.settled v.item))
  breaks : (v : Found Volume) → VolumeAt w v → v.item.kind ≡ Dp → v.item.snapshots ≢ [] → (r : Found Relationship) → found (goes_to v.at) w.relations ≡ Some r → r.item.transfer ≡ None →
      Aside w (with_volume w v.at (operations.writable v.item))
  snaps : (v : Found Volume) → WritableAt w v → (p : Volume → Bool) → found p w.volumes ≡ Some v → (name : List ℕ) (label : Option (List ℕ)) → Aside w (with_volume w v.at (volumes.snapped v.at w.clock v.item name label))

-- the relationship r goes on, with the same transfer or without it
pub data Turn (w : Up) (r : Relationship) : Relationship → Type 0 where
  quiesces : (flag : Bool) → Turn w r (relations.quiesced_as flag r)
  resumes : (t : Transfer) → r.transfer ≡ Some t → (volume_at w r.destination).kind ≡ Dp → Turn w r (transfers.with_transfer r (transfers.resumed t))
  -- where its first leg, if it has one, is not at the destination
  ends : (t : Transfer) → r.transfer ≡ Some t → ((i : Ident) (later : List Ident) → t.legs ≡ i ∷ later → has (volume_at w r.destination).snapshots i ≡ false) → Turn w r (transfers.without_transfer r)
  -- with its first leg settled, which the destination has
  ends_settled : (t : Transfer) (i : Ident) (later : List Ident) → r.transfer ≡ Some t → t.legs ≡ i ∷ later → has (volume_at w r.destination).snapshots i ≡ true →
      Turn w r (transfers.without_transfer (progress.settled r t i later))
  halts : (t : Transfer) (i : Ident) (later : List Ident) → r.transfer ≡ Some t → t.legs ≡ i ∷ later → has (volume_at w r.destination).snapshots i ≡ false → Turn w r (transfers.with_transfer r (transfers.halted t))
  halts_settled : (t : Transfer) (i : Ident) (later : List Ident) → r.transfer ≡ Some t → t.legs ≡ i ∷ later → later ≢ [] → has (volume_at w r.destination).snapshots i ≡ true →
      Turn w r (transfers.with_transfer (progress.settled r t i later) (transfers.halted (record t { legs = later; checkpoint = 0; landed = [] })))

-- the relationship r has the next transfer
pub data Start (w : Up) (r : Relationship) : Relationship → Type 0 where
  starts : (kind : TransferKind) → kind ≢ Resync → r.transfer ≡ None → (volume_at w r.destination).kind ≡ Dp → (r.base ≡ None → (s : Snapshot) → ¬ Among (volume_at w r.destination).snapshots s) →
      (transfers.next_legs w r r.base (volume_at w r.destination).snapshots).idents ≢ [] →
      Start w r (transfers.with_transfer r (transfers.new_transfer w.next_transfer kind (transfers.next_legs w r r.base (volume_at w r.destination).snapshots)))
  resyncs : (c : Snapshot) → common (volume_at w r.source).snapshots (volume_at w r.destination).snapshots ≡ Some c → (volume_at w r.destination).kind ≡ Rw → transfers.has_other_layout w r ≡ false →
      Start w r (transfers.resynced r c.ident (transfers.new_transfer w.next_transfer Resync
      (transfers.next_legs w r (Some c.ident) (transfers.as_reverted (policy_at w r.policy) c.ident (volume_at w r.destination).snapshots))))

-- the relationship r loses a half
pub data Halve (w : Up) (r : Relationship) : Relationship → Type 0 where
  deletes : r.destination_half ≡ true → r.transfer ≡ None → Halve w r (relations.without_destination r)
  releases : (r.destination_half ≡ true → (volume_at w r.destination).kind ≡ Rw) → r.transfer ≡ None → Halve w r (relations.without_source r)

pub record Relates (w : Up) (s d : Found Volume) (p : Found Policy) : Type 0 where
  pub source : VolumeAt w s
  pub source_within : s.at < length w.volumes
  pub destination : VolumeAt w d
  pub destination_within : d.at < length w.volumes
  pub policy : PolicyAt w p
  pub no_other : found (goes_to d.at) w.relations ≡ None
  pub sizes : relations.sizes_differ p.item s.item d.item ≡ false
  pub no_walk : relations.closes (edges w) s.at d.at ≡ false

pub data IsMove (w : Up) : Up → Type 0 where
  aside : {u : Up} → Aside w u → IsMove w u
  relates : (s d : Found Volume) (p : Found Policy) → Relates w s d p → IsMove w (relations.with_new_relation w s.at d.at p.at)
  turns : (r : Found Relationship) → RelationAt w r → r.item.destination_half ≡ true → (q : Relationship) → Turn w r.item q → IsMove w (with_relation w r.at q)
  begins : (r : Found Relationship) → RelationAt w r → r.item.destination_half ≡ true → (q : Relationship) → Start w r.item q → IsMove w (transfers.with_next_transfer w r.at q)
  halves : (r : Found Relationship) → RelationAt w r → (q : Relationship) → Halve w r.item q → IsMove w (relations.with_halves w r.at q)

abbrev pub Moves : Up → Reached → Type 0
Moves w x = IsMove w x.world
