-- Each way in which an event changes a world, one case for each.
use Rattle.std.proofs.Common.{◌≡◌, ◌≢◌, ℕ, List, [], length, Bool, Option, Some, None, Ok}
use Rattle.sm_base.specs.declared.numbers.Kind.{Kind}
use Rattle.sm_base.specs.declared.numbers.Kind.TheVariants.{Rw}
use Rattle.sm_base.specs.declared.refusal.Refusal.{Refusal}
use Rattle.sm_model.specs.declared.event.Event.{Event}
use Rattle.sm_model.specs.declared.event.Event.TheVariants as events
use Rattle.sm_model.specs.declared.reply.Reply.{Reply}
use Rattle.sm_model.specs.declared.reply.Reply.TheVariants as replies
use Rattle.sm_defs.specs.Words.{Among, Found, found}
use Rattle.sm_defs.specs.Volume.{Volume, Snapshot, new_volume}
use Rattle.sm_defs.specs.Relationship.{Relationship, Transfer}
use Rattle.sm_defs.specs.Needed.{holder}
use Rattle.sm_defs.specs.World.{Up, volume_at, relation_at, with_volume, with_relation}
use Rattle.sm_model.specs.Answers.{Reached, Told, told, Tells, volume_named}
use Rattle.sm_model.specs.Origin.{made_by}
use Rattle.sm_model.specs.OfVolumes as volumes
use Rattle.sm_model.specs.OfRelations as relations
use Rattle.sm_model.specs.OfTransfers as transfers
use Rattle.sm_defs.specs.Operations as operations

-- the volume that was found stands at its place
pub record VolumeAt (w : Up) (v : Found Volume) : Type 0 where
  pub among : Among w.volumes v.item
  pub at : volume_at w v.at ≡ v.item

-- and clients may write it
pub record WritableAt (w : Up) (v : Found Volume) : Type 0 where
  pub among : Among w.volumes v.item
  pub at : volume_at w v.at ≡ v.item
  pub is_rw : v.item.kind ≡ Rw

pub record RelationAt (w : Up) (r : Found Relationship) : Type 0 where
  pub among : Among w.relations r.item
  pub at : relation_at w r.at ≡ r.item

-- a reply that makes no snapshot and is no refusal
pub record IsPlain (reply : Reply) : Type 0 where
  pub makes_none : made_by reply ≡ None
  pub accepted : (r : Refusal) → ¬ (reply ≡ replies.Refused r)

abbrev pub PlainTold : Told → Type 0
PlainTold t = (reply : Reply) → Tells t reply → IsPlain reply

-- The relationship is another's with at most its transfer changed, which keeps its number and its mark. Without a
-- base it had none before, and the same legs.
pub record Follows (r q : Relationship) : Type 0 where
  pub number : q.number ≡ r.number
  pub source : q.source ≡ r.source
  pub transfer : (u : Transfer) → q.transfer ≡ Some u → (t : Transfer) × (r.transfer ≡ Some t) × (u.number ≡ t.number) × (u.reserved ≡ t.reserved)
  pub ends : (u : Transfer) → q.transfer ≡ Some u → q.base ≡ None → (t : Transfer) × (r.transfer ≡ Some t) × (r.base ≡ None) × (u.legs ≡ t.legs)

-- the relationship is another's with the next transfer, which has a leg where there is no base
pub record Starts (w : Up) (r q : Relationship) : Type 0 where
  pub number : q.number ≡ r.number
  pub source : q.source ≡ r.source
  pub transfer : (u : Transfer) → q.transfer ≡ Some u → u.number ≡ w.next_transfer
  pub ends : (u : Transfer) → q.transfer ≡ Some u → q.base ≡ None → u.legs ≢ []

-- what the event changes, but for a new snapshot
pub data IsChange (w : Up) (e : Event) : Up → Type 0 where
  elsewhere : (u : Up) → u.volumes ≡ w.volumes → u.relations ≡ w.relations → u.next_transfer ≡ w.next_transfer → u.next_relation ≡ w.next_relation → IsChange w e u
  creates : (path : List ℕ) (disk : ℕ) (kind : Kind) (logical physical : ℕ) → IsChange w e (volumes.with_new_volume w (new_volume path disk kind (length w.volumes) logical physical))
  writes : (v : Found Volume) → WritableAt w v → (block fill : ℕ) → IsChange w e (with_volume w v.at (volumes.written v.item block fill))
  drops : (path name : List ℕ) → e ≡ events.Unsnap path name → (v : Found Volume) → volume_named w path ≡ Ok v → WritableAt w v →
      (s : Snapshot) → volumes.snapshot_named v.item name ≡ Ok s → holder w v.at s.ident ≡ None → IsChange w e (with_volume w v.at (volumes.without_snapshot v.item s.ident))
  points : (v : Found Volume) → WritableAt w v → IsChange w e (with_volume w v.at (operations.settled v.item))
  breaks : (v : Found Volume) → VolumeAt w v → IsChange w e (with_volume w v.at (operations.writable v.item))
  relates : (source destination policy : ℕ) → IsChange w e (relations.with_new_relation w source destination policy)
  changes : (r : Found Relationship) → RelationAt w r → (q : Relationship) → Follows r.item q → IsChange w e (with_relation w r.at q)
  halves : (r : Found Relationship) → RelationAt w r → (q : Relationship) → Follows r.item q → IsChange w e (relations.with_halves w r.at q)
  starts : (r : Found Relationship) → RelationAt w r → (q : Relationship) → Starts w r.item q → IsChange w e (transfers.with_next_transfer w r.at q)

pub data IsAnswer (w : Up) (e : Event) : Told → Up → Type 0 where
  plain : {t : Told} {u : Up} → PlainTold t → IsChange w e u → IsAnswer w e t u
  snaps : (v : Found Volume) → WritableAt w v → (p : Volume → Bool) → found p w.volumes ≡ Some v → (path name : List ℕ) (label : Option (List ℕ)) → e ≡ events.Snap path name label →
      IsAnswer w e (told (replies.Snapped (volumes.client_ident v.at v.item))) (with_volume w v.at (volumes.snapped v.at w.clock v.item name label))

abbrev pub Is : Up → Event → Reached → Type 0
Is w e d = IsAnswer w e d.reply d.world
