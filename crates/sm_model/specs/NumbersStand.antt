-- Identities are of numbers that were given.
use Rattle.std.specs.Prelude.{◌≡◌, ℕ, ◌≤◌, ◌<◌, ◌+◌, ◌*◌, true, false, length, Some, None}
use Rattle.sm_defs.specs.Words.{Among}
use Rattle.sm_defs.specs.Volume.{Volume, Snapshot, has}
use Rattle.sm_defs.specs.Relationship.{Relationship, Transfer}
use Rattle.sm_defs.specs.Legs.{made_ident}
use Rattle.sm_defs.specs.Made.{made_name}
use Rattle.sm_defs.specs.World.{Up, volume_at}
use Rattle.sm_model.specs.InRange.{is_made_name}
use Rattle.sm_model.specs.Standing.{Stands}

-- the c-th snapshot of a client on its origin
pub record IsClients (w : Up) (s : Snapshot) (c : ℕ) : Type 0 where
  pub seq : s.ident.seq ≡ 2 * c
  pub counts : 1 ≤ c
  pub given : c < (volume_at w s.ident.origin).next
  pub maker : s.maker ≡ 0
  pub name : is_made_name s.name ≡ false

-- what the transfer of the number made, for the relationship that is its maker
pub record IsTransfers (w : Up) (s : Snapshot) (transfer : ℕ) : Type 0 where
  pub seq : s.ident.seq ≡ 2 * transfer + 1
  pub given : transfer < w.next_transfer
  pub maker_counts : 1 ≤ s.maker
  pub maker_given : s.maker < w.next_relation
  pub name : s.name ≡ made_name s.maker transfer
  pub label : s.label ≡ None
  pub while_standing : (r : Relationship) (t : Transfer) → Among w.relations r → r.transfer ≡ Some t → t.number ≡ transfer → (s.ident.origin ≡ r.source) × (s.maker ≡ r.number)

pub data IsNumbered (w : Up) (s : Snapshot) : Type 0 where
  clients : (c : ℕ) → IsClients w s c → IsNumbered w s
  transfers : (transfer : ℕ) → IsTransfers w s transfer → IsNumbered w s

pub record NumberStands (w : Up) (s : Snapshot) : Type 0 where
  pub origin : s.ident.origin < length w.volumes
  pub seq : IsNumbered w s

pub record NumbersStand (w : Up) : Type 0 where
  pub snapshots : (v : Volume) (s : Snapshot) → Stands w v s → NumberStands w s
  -- a reserved leg that its source lacks is on no volume
  pub unmade : (r : Relationship) (t : Transfer) → Among w.relations r → r.transfer ≡ Some t → t.reserved ≡ true →
      has (volume_at w r.source).snapshots (made_ident r.source t.number) ≡ false → (v : Volume) → Among w.volumes v → has v.snapshots (made_ident r.source t.number) ≡ false
