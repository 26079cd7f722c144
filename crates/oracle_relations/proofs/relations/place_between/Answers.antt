use Rattle.oracle_world.proofs.Found.{is_found}
use Rattle.sm_defs.specs.World.{no_relation}
use Rattle.sm_model.specs.OfRelations.{is_between}
use Rattle.oracle_relations.proofs.relations.place_between.Goals as goal

pub returns : goal.returns
returns c = is_found (is_between c.args.source c.args.destination) c.args.relations.now no_relation c.first_between.result c.first_between.ensures
