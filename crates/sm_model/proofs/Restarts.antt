-- What a restart leaves of a transfer it leaves again.
use Rattle.std.proofs.Common.{◌≡◌, Option, Some, None, refl}
use Rattle.sm_defs.specs.Relationship.{Transfer}
use Rattle.sm_model.specs.Opened.{restarted}

pub restarted_twice : (o : Option Transfer) → restarted (restarted o) ≡ restarted o
restarted_twice None = refl
restarted_twice (Some t) = refl
