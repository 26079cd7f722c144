use Rattle.std.proofs.Common.{List, ℕ, subst}
use Rattle.std.specs.Str.{bytes_eq}
use Rattle.sm_defs.specs.Relationship.{Policy}
use Rattle.sm_defs.specs.World.{no_policy}
use Rattle.oracle_world.specs.Finding.{IsFound}
use Rattle.oracle_volumes.proofs.policies.place_of_policy.Goals as goal

pub returns : goal.returns
returns c = subst (λ (t : List ℕ). IsFound (λ (v : Policy). bytes_eq v.name t) c.args.world.now.policies no_policy c.policy_named.result) c.text.ensures.text c.policy_named.ensures
