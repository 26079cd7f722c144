-- What a running transfer with all that its steps look at stands for, and where the world has all that.
use Rattle.std.specs.Prelude.{◌<◌, length}
use Rattle.sm_defs.specs.Relationship.{Relationship}
use Rattle.sm_defs.specs.World.{Up}
use Rattle.sm_model.specs.Running.{Running}
use Rattle.oracle_steps.specs.declared.values.PlainRunning.{PlainRunning}

abbrev pub running_of : PlainRunning → Running
running_of x = record { relation = x.relation.now; transfer = x.transfer.now; policy = x.policy.now; source = x.source.now; destination = x.destination.now }

-- the world has the relationship's volumes and its policy
pub record PartsStand (w : Up) (r : Relationship) : Type 0 where
  pub source : r.source < length w.volumes
  pub destination : r.destination < length w.volumes
  pub policy : r.policy < length w.policies
