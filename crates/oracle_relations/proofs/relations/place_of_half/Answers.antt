use Rattle.std.proofs.Common.{◌&&◌, not}
use Rattle.oracle_world.proofs.Found.{is_found}
use Rattle.sm_defs.specs.Relationship.{Relationship}
use Rattle.sm_defs.specs.World.{no_relation}
use Rattle.sm_model.specs.OfRelations.{is_between}
use Rattle.oracle_relations.proofs.relations.place_of_half.Goals as goal

pub returns : goal.returns
returns c = is_found (λ (r : Relationship). is_between c.args.source c.args.destination r && not r.destination_half) c.args.relations.now no_relation c.first_half.result c.first_half.ensures
