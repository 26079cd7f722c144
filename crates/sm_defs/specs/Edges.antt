-- States of relationships, edges and walks.
use Rattle.std.specs.Prelude.{ℕ, zero, suc, ◌==◌, ◌&&◌, ◌||◌, not, Bool, true, false, List, [], ◌∷◌, map, length, Option, Some, None, is_some, is_none}
use Rattle.std.specs.List.{list_any, filter}
use Rattle.sm_defs.specs.Volume.{Volume, is_rw}
use Rattle.sm_defs.specs.Relationship.{Relationship, Transfer, is_mirror}
use Rattle.sm_defs.specs.World.{Up, volume_at, policy_at}
use Rattle.sm_defs.specs.declared.states.MirrorState.{MirrorState}
use Rattle.sm_defs.specs.declared.states.MirrorState.TheVariants.{Uninitialized, Snapmirrored, BrokenOff}
use Rattle.sm_defs.specs.declared.states.Status4.{Status4}
use Rattle.sm_defs.specs.declared.states.Status4.TheVariants.{Idle, Transferring, Quiescing, Quiesced}

abbrev pub is_empty : {X : Type 0} → List X → Bool
is_empty [] = true
is_empty (x ∷ xs) = false

abbrev pub state_of : Bool → Bool → MirrorState
state_of true empty = BrokenOff
state_of false true = Uninitialized
state_of false false = Snapmirrored

abbrev pub mirror_state : Volume → MirrorState
mirror_state v = state_of (is_rw v.kind) (is_empty v.snapshots)

abbrev pub is_snapmirrored : MirrorState → Bool
is_snapmirrored Snapmirrored = true
is_snapmirrored _ = false

abbrev pub is_running : Option Transfer → Bool
is_running None = false
is_running (Some t) = is_none t.stopped

abbrev pub runs : Relationship → Bool
runs r = is_running r.transfer

abbrev pub status_of : Bool → Bool → Status4
status_of true true = Quiescing
status_of true false = Transferring
status_of false true = Quiesced
status_of false false = Idle

abbrev pub status : Relationship → Status4
status r = status_of (runs r) r.quiesced

-- from a volume to a volume
pub record Edge : Type 0 where
  pub from : ℕ
  pub to : ℕ

abbrev pub edge_of : Relationship → Edge
edge_of r = record { from = r.source; to = r.destination }

abbrev pub is_edge : Up → Relationship → Bool
is_edge w r = r.destination_half && (not (is_rw (volume_at w r.destination).kind) || is_some r.transfer)

abbrev pub is_mirror_edge : Up → Relationship → Bool
is_mirror_edge w r = r.destination_half && is_mirror (policy_at w r.policy).kind && is_snapmirrored (mirror_state (volume_at w r.destination))

abbrev pub edges : Up → List Edge
edges w = map edge_of (filter (is_edge w) w.relations)

abbrev pub mirror_edges : Up → List Edge
mirror_edges w = map edge_of (filter (is_mirror_edge w) w.relations)

-- a walk of one to n edges leads from u to v
abbrev pub leads : List Edge → ℕ → ℕ → ℕ → Bool
leads es zero u v = false
leads es (suc n) u v = list_any (λ e. (e.from == u) && ((e.to == v) || leads es n e.to v)) es

-- u lies upstream of v: a longer walk has a shorter one
abbrev pub upstream : List Edge → ℕ → ℕ → Bool
upstream es u v = leads es (length es) u v
