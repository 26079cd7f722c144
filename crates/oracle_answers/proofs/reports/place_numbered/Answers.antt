use Rattle.std.proofs.Common.{◌==◌}
use Rattle.oracle_world.proofs.Found.{is_found}
use Rattle.sm_defs.specs.Relationship.{Relationship}
use Rattle.sm_defs.specs.World.{no_relation}
use Rattle.oracle_answers.proofs.reports.place_numbered.Goals as goal

pub returns : goal.returns
returns c = is_found (λ (r : Relationship). r.number == c.args.number.0) c.args.relations.now no_relation c.first_numbered.result c.first_numbered.ensures
