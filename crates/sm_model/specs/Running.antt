-- A transfer with all that its steps look at.
use Rattle.std.specs.Prelude.{◌≡◌, ℕ, ◌<◌, length, Some, None}
use Rattle.sm_defs.specs.Volume.{Volume}
use Rattle.sm_defs.specs.Relationship.{Policy, Relationship, Transfer}
use Rattle.sm_defs.specs.World.{Up, volume_at, policy_at, relation_at}

pub record Running : Type 0 where
  pub relation : Relationship
  pub transfer : Transfer
  pub policy : Policy
  pub source : Volume
  pub destination : Volume

-- the relationship with its transfer, as the world has its policy and volumes
abbrev pub running_in : Up → Relationship → Transfer → Running
running_in w r t = record { relation = r; transfer = t; policy = policy_at w r.policy; source = volume_at w r.source; destination = volume_at w r.destination }

-- x is a running transfer of the world's k-th relationship
pub record IsRunning (w : Up) (k : ℕ) (x : Running) : Type 0 where
  pub place : k < length w.relations
  pub stands : relation_at w k ≡ x.relation
  pub transfer : x.relation.transfer ≡ Some x.transfer
  pub runs : x.transfer.stopped ≡ None
  pub is : x ≡ running_in w x.relation x.transfer
