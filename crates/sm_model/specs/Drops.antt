-- What a deed drops, and what the rules name.
use Rattle.std.specs.Prelude.{◌≡◌, ℕ, List, [], ◌∷◌, ◌++◌, true, false, Some, Ok}
use Rattle.sm_base.specs.declared.numbers.Ident.{Ident}
use Rattle.sm_model.specs.declared.event.Event.{Event}
use Rattle.sm_model.specs.declared.event.Event.TheVariants as events
use Rattle.sm_model.specs.declared.reply.Reply.{Reply}
use Rattle.sm_model.specs.declared.reply.Reply.TheVariants as replies
use Rattle.sm_defs.specs.Words.{Found}
use Rattle.sm_defs.specs.Volume.{Volume, Snapshot, has, past}
use Rattle.sm_defs.specs.Relationship.{is_mirror}
use Rattle.sm_defs.specs.World.{Up, volume_at}
use Rattle.sm_model.specs.Answers.{volume_named}
use Rattle.sm_model.specs.OfVolumes.{snapshot_named}
use Rattle.sm_model.specs.Running.{Running, IsRunning}
use Rattle.sm_model.specs.Steps.{list_published, snapshot_of, arrived}
use Rattle.sm_model.specs.Due.{is_tidied, goes}
use Rattle.sm_model.specs.World.{Deed}

-- the volume has the identity before and not after
abbrev pub Drops : Deed → ℕ → Ident → Type 0
Drops d v i = (has (volume_at d.old v).snapshots i ≡ true) × (has (volume_at d.new v).snapshots i ≡ false)

-- the newest snapshot of the name
pub record NamedByUnsnap (w : Up) (path name : List ℕ) (v : ℕ) (i : Ident) : Type 0 where
  pub volume : Found Volume
  pub snapshot : Snapshot
  pub path_is : volume_named w path ≡ Ok volume
  pub name_is : snapshot_named volume.item name ≡ Ok snapshot
  pub there : v ≡ volume.at
  pub this : i ≡ snapshot.ident

-- the rules name something at the destination of the relationship with the number, whose transfer runs
abbrev pub NamedAt : Up → ℕ → ℕ → (Running → Type 0) → Type 0
NamedAt w number v P = (k : ℕ) × (x : Running) × IsRunning w k x × (x.relation.number ≡ number) × (v ≡ x.relation.destination) × P x

-- a mirror's snapshots after the base
abbrev pub NamedByRevert : Ident → Running → Type 0
NamedByRevert i x = (is_mirror x.policy.kind ≡ true) × (b : Ident) × (x.relation.base ≡ Some b) × (has (past b x.destination.snapshots) i ≡ true)

-- what is pruned
abbrev pub NamedByPrune : Up → Ident → Running → Type 0
NamedByPrune w i x = (s : Snapshot) × (snapshot_of x.destination.snapshots (Some i) ≡ Some s) × (goes w x s ≡ true)

-- of a vault's list with the leg last, what its rules do not keep
abbrev pub NamedByRetention : Up → Ident → Ident → Running → Type 0
NamedByRetention w leg i x =
    (is_mirror x.policy.kind ≡ false) × (s : Snapshot) × (snapshot_of x.source.snapshots (Some leg) ≡ Some s) ×
    (has (x.destination.snapshots ++ arrived x s ∷ []) i ≡ true) × (has (list_published w x (arrived x s)) i ≡ false)

-- what is tidied
abbrev pub NamedByTidy : Up → ℕ → Ident → Type 0
NamedByTidy w v i = (s : Snapshot) × (snapshot_of (volume_at w v).snapshots (Some i) ≡ Some s) × (is_tidied w v s ≡ true)

-- by the step that the reply tells of
unfoldable pub NamedByStep : Up → Reply → ℕ → Ident → Type 0
NamedByStep w (replies.Reverted r n) v i = NamedAt w r.0 v (NamedByRevert i)
NamedByStep w (replies.Pruned r n) v i = NamedAt w r.0 v (NamedByPrune w i)
NamedByStep w (replies.Published r leg n) v i = NamedAt w r.0 v (NamedByRetention w leg i)
NamedByStep w (replies.Tidied u n) v i = (v ≡ u.0) × NamedByTidy w v i
NamedByStep w reply v i = ⊥

-- the rules name the identity on the volume for the deed
unfoldable pub NamedFor : Deed → Event → ℕ → Ident → Type 0
NamedFor d (events.Unsnap path name) v i = NamedByUnsnap d.old path name v i
NamedFor d (events.Work shown) v i = NamedByStep d.old d.reply v i
NamedFor d e v i = ⊥
