use Rattle.std.proofs.Common.{◌∙◌, List, ap, position}
use Rattle.std.specs.Str.{bytes_eq}
use Rattle.sm_defs.specs.Relationship.{Policy}
use Rattle.sm_defs.specs.World.{Up, no_policy}
use Rattle.oracle_world.proofs.Found.{is_found}
use Rattle.oracle_world.proofs.finding.policy_named.Goals as goal

pub returns : goal.returns
returns c = is_found (λ (p : Policy). bytes_eq p.name c.args.name.now) c.args.world.now.policies no_policy c.place_of_policy.result (c.place_of_policy.ensures ∙ ap (λ (xs : List Policy). position (λ (p : Policy). bytes_eq p.name c.args.name.now) xs) (c.deref.ensures.value ∙ ap (λ (w : Up). w.policies) c.world.view_is))
