-- The world after a restart.
use Rattle.std.specs.Prelude.{false, map, Option, Some, None}
use Rattle.sm_base.specs.declared.refusal.Reason.TheVariants.{Restart}
use Rattle.sm_defs.specs.Volume.{numbers}
use Rattle.sm_defs.specs.Operations as operations
use Rattle.sm_defs.specs.Relationship.{Relationship, Transfer}
use Rattle.sm_defs.specs.World.{Up}

-- whatever its reason was before
abbrev pub restarted : Option Transfer → Option Transfer
restarted None = None
restarted (Some t) = Some (record t { stopped = Some Restart; landed = numbers 0 t.checkpoint; pruned = false })

abbrev pub rejoined : Relationship → Relationship
rejoined r = record r { transfer = restarted r.transfer }

abbrev pub opened : Up → Up
opened w = record w { volumes = map operations.opened w.volumes; relations = map rejoined w.relations }
