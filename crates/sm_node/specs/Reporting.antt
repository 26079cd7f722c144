-- What a line of the report on a relationship asks of the world.
use Rattle.std.specs.Prelude.{◌<◌, length}
use Rattle.sm_defs.specs.Relationship.{Relationship}
use Rattle.sm_defs.specs.World.{Up}
use Rattle.sm_model.specs.Standing.{EachRelation}

-- its volumes and its policy stand
pub record LiesWithin (w : Up) (r : Relationship) : Type 0 where
  pub source : r.source < length w.volumes
  pub destination : r.destination < length w.volumes
  pub policy : r.policy < length w.policies

abbrev pub RelationsLieWithin : Up → Type 0
RelationsLieWithin w = EachRelation (LiesWithin w) w
