-- What a node has of a commit whose outcome is not known.
use Rattle.std.specs.Prelude.{◌≡◌, ◌≢◌, ◌≤◌, ℕ, suc, List, map, length, Option, None, Some, slice_get}
use Rattle.sm_defs.specs.World.{Up}
use Rattle.sm_catroot.specs.Catalog.{Catalog}
use Rattle.sm_volume.specs.Mounted.{Mounted}
use Rattle.sm_node.specs.Seats.{Seated, moved}
use Rattle.sm_node.specs.Nodes.{Node, world_with}

-- the value of a commit whose outcome is not known, or else the one that stands
abbrev pub later : {A : Type 0} → Option A → A → A
later (Some y) x = y
later None x = x

abbrev pub volume_ahead : {D : Type 0} → Mounted D → Mounted D
volume_ahead m = record m { volume = later m.after m.volume }

abbrev pub ahead : {D : Type 0} → Seated D → Seated D
ahead s = moved s (volume_ahead s.volume)

-- the world, where a commit whose outcome is not known has come to pass
abbrev pub world_ahead : {D : Type 0} → Node D → Up
world_ahead n = world_with (later n.root.after n.root.held) (map ahead n.seats) n.lengths

abbrev pub NonePending : {D : Type 0} → List (Seated D) → Type 0
NonePending seats = (i : ℕ) (s : Seated _) → slice_get seats i ≡ Some s → s.volume.after ≡ None

-- no commit has an outcome that is not known
abbrev pub NothingPending : {D : Type 0} → Node D → Type 0
NothingPending n = (n.root.after ≡ None) × NonePending n.seats

-- ---- where one commit at most has

-- at most one volume lies behind those of the catalogue: that of a creation whose commit failed, which was to have them all
pub record IsLong {D : Type 0} (n : Node D) : Type 0 where
  pub held : length n.seats ≤ suc (length n.root.held.volumes)
  pub after : (k : Catalog) → n.root.after ≡ Some k → length k.volumes ≡ length n.seats

-- no other disk has a commit whose outcome is not known; disk 0 is at seat 0, that of volume i at seat i + 1
pub record OthersDecided {D : Type 0} (seat : ℕ) (n : Node D) : Type 0 where
  pub root : seat ≢ 0 → n.root.after ≡ None
  pub volumes : (i : ℕ) (s : Seated D) → slice_get n.seats i ≡ Some s → seat ≢ suc i → s.volume.after ≡ None

-- at most the commit of this disk is left open
pub record IsLeftOpen {D : Type 0} (seat : ℕ) (n : Node D) : Type 0 where
  pub decided : OthersDecided seat n
  pub long : IsLong n
