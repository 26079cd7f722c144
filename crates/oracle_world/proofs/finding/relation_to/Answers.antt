use Rattle.std.proofs.Common.{◌∙◌, List, ap, position}
use Rattle.sm_model.specs.Answers.{goes_to}
use Rattle.sm_defs.specs.Relationship.{Relationship}
use Rattle.sm_defs.specs.World.{Up, no_relation}
use Rattle.oracle_world.proofs.Found.{is_found}
use Rattle.oracle_world.proofs.finding.relation_to.Goals as goal

pub returns : goal.returns
returns c = is_found (goes_to c.args.destination) c.args.world.now.relations no_relation c.place_of_relation.result (c.place_of_relation.ensures ∙ ap (λ (xs : List Relationship). position (goes_to c.args.destination) xs) (c.deref.ensures.value ∙ ap (λ (w : Up). w.relations) c.world.view_is))
