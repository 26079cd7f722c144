-- A vault sends what has a class.
use Rattle.std.specs.Prelude.{◌≡◌, true, false}
use Rattle.sm_defs.specs.Words.{Among}
use Rattle.sm_defs.specs.Volume.{Snapshot}
use Rattle.sm_defs.specs.Relationship.{Relationship, Transfer, is_mirror}
use Rattle.sm_defs.specs.Classes.{has_class}
use Rattle.sm_defs.specs.World.{Up, volume_at, policy_at}
use Rattle.sm_model.specs.Standing.{EachTransfer}

-- it makes no leg, and each leg that the source has has a class
pub record LegsHaveClasses (w : Up) (r : Relationship) (t : Transfer) : Type 0 where
  pub unreserved : t.reserved ≡ false
  pub classes : (s : Snapshot) → Among t.legs s.ident → Among (volume_at w r.source).snapshots s → has_class (policy_at w r.policy) s ≡ true

abbrev pub LegsKept : Up → Type 0
LegsKept w = EachTransfer (λ r t. is_mirror (policy_at w r.policy).kind ≡ false → LegsHaveClasses w r t) w
